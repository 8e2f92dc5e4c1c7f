-- The locator values that a rescan gives, the first of them and the others.
use Rattle.std.specs.Prelude.{All, bytes_eq, position, slice_get}
use Rattle.std.specs.List.{list_any}
use Rattle.std.specs.Option.{option_map_or}
use Rattle.cf_types.specs.Locators.{locators_at}
use Rattle.cf_types.specs.declared.tables.Attr.{Attr}
use Rattle.cf_types.specs.declared.tables.Place.{Place}
use Rattle.cf_types.specs.declared.tables.Place.TheVariants.{Root, At}
use Rattle.cf_types.proofs.ListLemmas.{all_at}
use Rattle.std.proofs.Common.{◌≡◌, ◌<◌, ◌≤◌, ◌-◌, ◌==◌, true, false, ℕ, List, [], ◌∷◌, length, get_or, take, drop, Option, Some, None, refl, sym, ap, ◌∙◌, arith}
use Rattle.cf_types.specs.declared.machine.Given.{Given}
use Rattle.run_rules.specs.declared.world.Wanted.{Wanted}
use Rattle.cf_types.specs.declared.tables.Locator.{Locator}
use Rattle.cf_types.proofs.PlaceLemmas.{position-map}
use Rattle.cf_types.specs.Lookups.{place_of_name}
use Rattle.run_rules.specs.Next.{wanted_of}
use Rattle.plain_world.specs.Wanted.{names_of, wants}

taken_all : {A : Type 0} (xs : List A) → take (length xs) xs ≡ xs
taken_all [] = refl
taken_all {A} (x ∷ xs) = ap (λ (ys : List A). x ∷ ys) (taken_all xs)

pub by_first : (gs : List Given) (g : Given) → 1 ≤ length gs → g ≡ get_or gs 0 g → gs ≡ g ∷ take (length gs - 1) (drop 1 gs)
by_first [] g some is = absurd (omega (arith, some))
by_first (x ∷ xs) g some is =
    let n : length (x ∷ xs) - 1 ≡ length xs = omega arith in
    rw n (ap (λ (y : Given). y ∷ xs) (sym is) ∙ ap (λ (ys : List Given). g ∷ ys) (sym (taken_all xs)))

pub none_given : (names : List (List ℕ)) (gs : List Given) → length gs < 1 → wanted_of names gs ≡ Some []
unfolding wanted_of
none_given names [] few = refl
none_given names (g ∷ gs) few = absurd (omega (arith, few))

-- where the others can't be, all can't
pub rest_unwanted : (names : List (List ℕ)) (g : Given) (gs : List Given) → wanted_of names gs ≡ None → wanted_of names (g ∷ gs) ≡ None
unfolding wanted_of
rest_unwanted names g gs e = rw e refl

pub rest_wanted : (names : List (List ℕ)) (g : Given) (gs : List Given) (rest : List Wanted) → wanted_of names gs ≡ Some rest → wanted_of names (g ∷ gs) ≡ wants names g rest
unfolding wanted_of
rest_wanted names g gs rest e = rw e refl

-- ---- the first of them

place_is : (ls : List Locator) (name : List ℕ) → place_of_name (names_of ls) name ≡ position (λ l. bytes_eq l.name name) ls
place_is ls name = position-map (λ n. bytes_eq n name) (λ (l : Locator). l.name) ls

-- no locator has its name
pub none_called : (ls : List Locator) (g : Given) (rest : List Wanted) → position (λ l. bytes_eq l.name g.name) ls ≡ None → wants (names_of ls) g rest ≡ None
none_called ls g rest e = rw (place_is ls g.name, e) refl

-- it is wanted already
pub wanted_twice : (ls : List Locator) (g : Given) (rest : List Wanted) (place : ℕ) → position (λ l. bytes_eq l.name g.name) ls ≡ Some place
    → list_any (λ v. v.place == place) rest ≡ true → wants (names_of ls) g rest ≡ None
wanted_twice ls g rest place e twice = rw (place_is ls g.name, e, twice) refl

-- it stands before the others
pub wanted_first : (ls : List Locator) (g : Given) (rest : List Wanted) (place : ℕ) → position (λ l. bytes_eq l.name g.name) ls ≡ Some place
    → list_any (λ v. v.place == place) rest ≡ false → wants (names_of ls) g rest ≡ Some (record { place = place; value = g.value } ∷ rest)
wanted_first ls g rest place e once = rw (place_is ls g.name, e, once) refl

-- ---- places

-- a place has few locators
pub few_at : (attrs : List Attr) (p : Place) → All (λ a. length a.locs ≤ 16) attrs → length (locators_at attrs p) ≤ 16
few_at attrs Root all = omega arith
few_at attrs (At a) all = by (slice_get attrs a) (λ x is. all_at (λ x. length x.locs ≤ 16) attrs a x all is)
  where
    by : (o : Option Attr) → ((x : Attr) → o ≡ Some x → length x.locs ≤ 16) → length (option_map_or (λ x. x.locs) o []) ≤ 16
    by None h = omega arith
    by (Some x) h = h x refl
