-- The locator values that a rescan wants.
use Rattle.std.proofs.Common.{◌≡◌, ◌<◌, ◌≤◌, ◌-◌, ◌||◌, ◌==◌, ℕ, Bool, true, false, not, List, [], ◌∷◌, length, get_or, take, drop, map, is_some, Option, Some, None, option_and_then, refl, sym, ap, ◌∙◌, arith}
use Rattle.std.specs.Prelude.{if◌then◌else◌, bytes_eq, position}
use Rattle.std.specs.List.{list_any}
use Rattle.std.specs.Option.{option_map_or}
use Rattle.cf_types.specs.declared.machine.Given.{Given}
use Rattle.cf_types.specs.declared.tables.Locator.{Locator}
use Rattle.cf_types.proofs.PlaceLemmas.{position-map}
use Rattle.run_rules.specs.declared.world.Wanted.{Wanted}
use Rattle.cf_types.specs.Locators.{locators_at}
use Rattle.cf_types.specs.declared.tables.Place.TheVariants.{At}
use Rattle.cf_types.specs.Lookups.{attr_number, place_of_name}
use Rattle.run_rules.specs.declared.world.Dev.{Dev}
use Rattle.run_rules.specs.World.{World, has, is_number, offered_by}
use Rattle.run_rules.specs.declared.deed.Deed.{Deed}
use Rattle.run_rules.specs.declared.deed.Deed.TheVariants.{Refuse, Rescan}
use Rattle.run_rules.specs.Next.{rescan_of, wanted_of}
use Rattle.run_rules.specs.declared.deed.CommandRefusal.TheVariants.{BadAttribute, BadLocator}

pub place_is : (locators : List Locator) (name : List ℕ) → place_of_name (map (λ l. l.name) locators) name ≡ position (λ l. bytes_eq l.name name) locators
place_is locators name = position-map (λ n. bytes_eq n name) (λ (l : Locator). l.name) locators

-- the places of what is wanted are those of what is given
places_are : (names : List (List ℕ)) (gs : List Given) (ws : List Wanted) (i : ℕ) → wanted_of names gs ≡ Some ws
    → list_any (λ v. v.place == i) ws ≡ list_any (λ h. is_number (place_of_name names h.name) i) gs
unfolding wanted_of
places_are names [] ws i e = let none : [] ≡ ws = cc in ap (list_any (λ (v : Wanted). v.place == i)) (sym none)
places_are names (g ∷ gs) ws i e = by_rest (wanted_of names gs) (λ rest. places_are names gs rest i) e
  where
    by_test : (rest : List Wanted) (n : ℕ) (b : Bool) → list_any (λ v. v.place == i) rest ≡ list_any (λ h. is_number (place_of_name names h.name) i) gs
        → (if b then None else Some (record { place = n; value = g.value } ∷ rest)) ≡ Some ws
        → list_any (λ v. v.place == i) ws ≡ (n == i || list_any (λ h. is_number (place_of_name names h.name) i) gs)
    by_test rest n true more k = absurd cc
    by_test rest n false more k =
        let is : record { place = n; value = g.value } ∷ rest ≡ ws = cc in
        ap (list_any (λ (v : Wanted). v.place == i)) (sym is) ∙ ap (λ b. n == i || b) more

    by_place : (rest : List Wanted) (o : Option ℕ) → list_any (λ v. v.place == i) rest ≡ list_any (λ h. is_number (place_of_name names h.name) i) gs
        → option_and_then (λ n. if list_any (λ v. v.place == n) rest then None else Some (record { place = n; value = g.value } ∷ rest)) o ≡ Some ws
        → list_any (λ v. v.place == i) ws ≡ (is_number o i || list_any (λ h. is_number (place_of_name names h.name) i) gs)
    by_place rest None more k = absurd cc
    by_place rest (Some n) more k = by_test rest n (list_any (λ v. v.place == n) rest) more k

    by_rest : (o : Option (List Wanted)) → ((rest : List Wanted) → o ≡ Some rest → list_any (λ v. v.place == i) rest ≡ list_any (λ h. is_number (place_of_name names h.name) i) gs)
        → option_and_then (λ rest. option_and_then (λ n. if list_any (λ v. v.place == n) rest then None else Some (record { place = n; value = g.value } ∷ rest)) (place_of_name names g.name)) o ≡ Some ws
        → list_any (λ v. v.place == i) ws ≡ (is_number (place_of_name names g.name) i || list_any (λ h. is_number (place_of_name names h.name) i) gs)
    by_rest None more k = absurd cc
    by_rest (Some rest) more k = by_place rest (place_of_name names g.name) (more rest refl) k

-- where the others may be given, one more may if it has a place and no other has the same
pub wanted_beside : (names : List (List ℕ)) (g : Given) (gs : List Given) (place : Option ℕ) → is_some (wanted_of names gs) ≡ true → place_of_name names g.name ≡ place
    → is_some (wanted_of names (g ∷ gs)) ≡ option_map_or (λ i. not (list_any (λ h. is_number (place_of_name names h.name) i) gs)) place false
unfolding wanted_of
wanted_beside names g gs place are at =
    ap (λ (o : Option ℕ). is_some (option_and_then (λ rest. option_and_then (λ n. if list_any (λ v. v.place == n) rest then None else Some (record { place = n; value = g.value } ∷ rest)) o) (wanted_of names gs))) at ∙ by_rest (wanted_of names gs) refl are place
  where
    by_test : (rest : List Wanted) (n : ℕ) (b : Bool) → is_some (if b then None else Some (record { place = n; value = g.value } ∷ rest)) ≡ not b
    by_test rest n true = refl
    by_test rest n false = refl

    by_rest : (o : Option (List Wanted)) → wanted_of names gs ≡ o → is_some o ≡ true → (place : Option ℕ)
        → is_some (option_and_then (λ rest. option_and_then (λ n. if list_any (λ v. v.place == n) rest then None else Some (record { place = n; value = g.value } ∷ rest)) place) o) ≡ option_map_or (λ i. not (list_any (λ h. is_number (place_of_name names h.name) i) gs)) place false
    by_rest None e h place = absurd cc
    by_rest (Some rest) e h None = refl
    by_rest (Some rest) e h (Some n) = by_test rest n (list_any (λ v. v.place == n) rest) ∙ ap not (places_are names gs rest n e)

-- where the others may not, nor may one more
pub unwanted : (names : List (List ℕ)) (g : Given) (gs : List Given) → is_some (wanted_of names gs) ≡ false → is_some (wanted_of names (g ∷ gs)) ≡ false
unfolding wanted_of
unwanted names g gs are = cases (wanted_of names gs) are
  where
    cases : (o : Option (List Wanted)) → is_some o ≡ false → is_some (option_and_then (λ rest. option_and_then (λ n. if list_any (λ v. v.place == n) rest then None else Some (record { place = n; value = g.value } ∷ rest)) (place_of_name names g.name)) o) ≡ false
    cases None h = refl
    cases (Some rest) h = absurd cc

-- a list as its first element and the others
pub by_first : (gs : List Given) (g : Given) → 1 ≤ length gs → g ≡ get_or gs 0 g → gs ≡ g ∷ take (length gs - 1) (drop 1 gs)
by_first [] g some is = absurd (omega (arith, some))
by_first (x ∷ xs) g some is =
    let n : length (x ∷ xs) - 1 ≡ length xs = omega arith in
    rw n (ap (λ (y : Given). y ∷ xs) (sym is) ∙ ap (λ (ys : List Given). g ∷ ys) (sym (take-all xs)))
  where
    take-all : (ys : List Given) → take (length ys) ys ≡ ys
    take-all [] = refl
    take-all (y ∷ ys) = ap (λ (zs : List Given). y ∷ zs) (take-all ys)

pub wanted_none : (names : List (List ℕ)) (gs : List Given) → length gs < 1 → is_some (wanted_of names gs) ≡ true
unfolding wanted_of
wanted_none names [] few = refl
wanted_none names (g ∷ gs) few = absurd (omega (arith, few))

-- ---- what is searched

pub rescan_all : (w : World) (d : Dev) (attr : Option (List ℕ)) (given : List Given) → attr ≡ None → rescan_of w d attr given ≡ Rescan d.serial None
unfolding rescan_of
rescan_all w d attr given e = rw e refl

-- what is wanted of an attribute
abbrev wanted_at : World → ℕ → List Given → Option (List Wanted)
wanted_at w a given = wanted_of (map (λ l. l.name) (locators_at w.setup.tables.attrs (At a))) given

-- a rescan of an attribute, by whether it is offered and by what is wanted of it
abbrev rescan_attr : Dev → ℕ → Bool → Option (List Wanted) → Deed
rescan_attr d a offered wanted = if offered then option_map_or (λ ws. Rescan d.serial (Some a)) wanted (Refuse BadLocator) else Refuse BadAttribute

rescan_named : (w : World) (d : Dev) (name : List ℕ) (given : List Given) (o : Option ℕ) → attr_number w.setup.tables.attrs name ≡ o
    → rescan_of w d (Some name) given ≡ option_map_or (λ a. rescan_attr d a (has (offered_by w.setup d.row) a) (wanted_at w a given)) o (Refuse BadAttribute)
unfolding rescan_of
rescan_named w d name given o at = ap (λ (x : Option ℕ). option_map_or (λ a. rescan_attr d a (has (offered_by w.setup d.row) a) (wanted_at w a given)) x (Refuse BadAttribute)) at

pub unnamed : (w : World) (d : Dev) (name : List ℕ) (given : List Given) → attr_number w.setup.tables.attrs name ≡ None → rescan_of w d (Some name) given ≡ Refuse BadAttribute
unnamed w d name given at = rescan_named w d name given None at

pub unoffered : (w : World) (d : Dev) (name : List ℕ) (given : List Given) (a : ℕ) → attr_number w.setup.tables.attrs name ≡ Some a → has (offered_by w.setup d.row) a ≡ false
    → rescan_of w d (Some name) given ≡ Refuse BadAttribute
unoffered w d name given a at offered = rescan_named w d name given (Some a) at ∙ ap (λ (b : Bool). rescan_attr d a b (wanted_at w a given)) offered

pub rescanned : (w : World) (d : Dev) (name : List ℕ) (given : List Given) (a : ℕ) (are : Bool) → attr_number w.setup.tables.attrs name ≡ Some a
    → has (offered_by w.setup d.row) a ≡ true → is_some (wanted_at w a given) ≡ are → rescan_of w d (Some name) given ≡ (if are then Rescan d.serial (Some a) else Refuse BadLocator)
rescanned w d name given a are at offered wanted =
    rescan_named w d name given (Some a) at ∙ ap (λ (b : Bool). rescan_attr d a b (wanted_at w a given)) offered ∙ by_wanted (wanted_at w a given) are wanted
  where
    by_wanted : (o : Option (List Wanted)) (b : Bool) → is_some o ≡ b → rescan_attr d a true o ≡ (if b then Rescan d.serial (Some a) else Refuse BadLocator)
    by_wanted None true h = absurd cc
    by_wanted None false h = refl
    by_wanted (Some ws) true h = refl
    by_wanted (Some ws) false h = absurd cc
