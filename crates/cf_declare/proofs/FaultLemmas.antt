-- Tests of lists that are gone through in a loop.
use Rattle.std.proofs.Common.{◌≡◌, ℕ, ◌+◌, ◌<◌, ◌≤◌, Bool, ◌||◌, List, [], ◌∷◌, length, get_or, drop, map, refl, ap, sym, ◌∙◌, arith}
use Rattle.std.specs.Prelude.{bytes_eq}
use Rattle.std.specs.List.{list_any}
use Rattle.std.proofs.lemmas.List.{drop_more}
use Rattle.cf_types.specs.declared.declared.Declared.{Declared}
use Rattle.cf_types.specs.declared.tables.Locator.{Locator}
use Rattle.config_rules.specs.Form.{◌or◌}
use Rattle.config_rules.specs.Fault.{repeats, place_fault, places_fault}

pub any_map : {X Y : Type 0} (p : Y → Bool) (f : X → Y) (xs : List X) → list_any p (map f xs) ≡ list_any (λ x. p (f x)) xs
any_map p f [] = refl
any_map p f (x ∷ xs) = ap (λ b. p (f x) || b) (any_map p f xs)

abbrev pub locator_names : List Locator → List (List ℕ)
locator_names locs = map (λ l. l.name) locs

-- one more locator
pub repeats_here : (locs : List Locator) (i : ℕ) (l : Locator) → i < length locs → l ≡ get_or locs i l → repeats (locator_names (drop i locs)) ≡ (list_any (λ n. bytes_eq n l.name) (locator_names (drop (i + 1) locs)) || repeats (locator_names (drop (i + 1) locs)))
repeats_here locs i l h is =
    ap (λ xs. repeats (locator_names xs)) (drop_more locs i l h)
    ∙ ap (λ (x : Locator). list_any (λ n. bytes_eq n x.name) (locator_names (drop (i + 1) locs)) || repeats (locator_names (drop (i + 1) locs))) (sym is)

-- one more place
pub places_here : (d : Declared) (places : List (List ℕ)) (i : ℕ) (x : List ℕ) → i < length places → x ≡ get_or places i x → places_fault d (drop i places) ≡ place_fault d x or places_fault d (drop (i + 1) places)
places_here d places i x h is =
    ap (places_fault d) (drop_more places i x h) ∙ ap (λ (y : List ℕ). place_fault d y or places_fault d (drop (i + 1) places)) (sym is)

-- a list of one value is that value alone
pub only_one : (xs : List (List ℕ)) (x : List ℕ) → 1 ≤ length xs → length xs < 2 → x ≡ get_or xs 0 x → xs ≡ x ∷ []
only_one [] x some few is = absurd (omega (arith, some))
only_one (y ∷ []) x some few is = ap (λ (z : List ℕ). z ∷ []) (sym is)
only_one (y ∷ z ∷ zs) x some few is = absurd (omega (arith, few))
