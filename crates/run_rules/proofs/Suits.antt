-- Which rows may take a spot below a parent: those that are open to it and suit the spot.
use Rattle.std.proofs.Common.{◌≡◌, ℕ, ◌<◌, ◌≤◌, Bool, true, false, ◌&&◌, ◌||◌, ◌==◌, nat_lt, length, Option, Some, None, slice_get, refl, inl, inr, arith}
use Rattle.std.specs.Option.{option_map_or}
use Rattle.std.proofs.lemmas.Bool.{cases_lt}
use Rattle.std.proofs.lemmas.Bool.Decides.{nat_tests}
use Rattle.std.proofs.lemmas.Option.{slice_get_past}
use Rattle.cf_types.specs.declared.machine.Machine.{Machine}
use Rattle.cf_types.specs.declared.tables.Place.{Place}
use Rattle.cf_types.specs.declared.tables.Row.{Row}
use Rattle.cf_types.specs.declared.tables.Tables.{Tables}
use Rattle.cf_types.specs.Locators.{locators_at, submatch}
use Rattle.run_rules.specs.declared.world.ParentRef.{ParentRef}
use Rattle.run_rules.specs.Search.{fits, found_at, match_value, names_parent, parent_offers}
use Rattle.run_rules.specs.Suits.{suits}
use Rattle.run_rules.specs.World.{same_place}

-- the row is live by this test, fits the parent at the place, passes submatch and has a match value above 0
abbrev pub takes_by : (Row → Bool) → Tables → Machine → ParentRef → Place → ℕ → ℕ → Bool
takes_by live t m p place x r =
    option_map_or (λ row.
    live row && fits t p place row && submatch (locators_at t.attrs place) row.locs (found_at m x) && nat_lt 0 (match_value m row.attach x))
    (slice_get t.rows r) false

shuffle : (l s n m v : Bool) → (l && (s && true && n) && m && v) ≡ ((l && n) && (s && v && m))
shuffle false s n m v = refl
shuffle true false true m v = refl
shuffle true false false m v = refl
shuffle true true false m v = refl
shuffle true true true true true = refl
shuffle true true true true false = refl
shuffle true true true false true = refl
shuffle true true true false false = refl

pub taken_is : (live : Row → Bool) (t : Tables) (m : Machine) (p : ParentRef) (place : Place) (x r : ℕ) → parent_offers t p place ≡ true
    → takes_by live t m p place x r ≡ (option_map_or (λ row. live row && names_parent row.parent p) (slice_get t.rows r) false && suits t m place x r)
taken_is live t m p place x r offered = cases (slice_get t.rows r)
  where
    cases : (o : Option Row)
        → option_map_or (λ row. live row && (same_place row.place place && parent_offers t p place && names_parent row.parent p)
        && submatch (locators_at t.attrs place) row.locs (found_at m x) && nat_lt 0 (match_value m row.attach x)) o false
        ≡ (option_map_or (λ row. live row && names_parent row.parent p) o false
        && option_map_or (λ row. same_place row.place place && nat_lt 0 (match_value m row.attach x) && submatch (locators_at t.attrs place) row.locs (found_at m x)) o false)
    cases None = refl
    cases (Some row) = rw offered (shuffle (live row) (same_place row.place place) (names_parent row.parent p)
        (submatch (locators_at t.attrs place) row.locs (found_at m x)) (nat_lt 0 (match_value m row.attach x)))

-- where the parent does not offer the place, none may
pub none_takes : (live : Row → Bool) (t : Tables) (m : Machine) (p : ParentRef) (place : Place) (x r : ℕ) → parent_offers t p place ≡ false → takes_by live t m p place x r ≡ false
none_takes live t m p place x r offered = cases (slice_get t.rows r)
  where
    fails : (l s n m v : Bool) → (l && (s && false && n) && m && v) ≡ false
    fails false s n m v = refl
    fails true true n m v = refl
    fails true false n m v = refl

    cases : (o : Option Row)
        → option_map_or (λ row. live row && (same_place row.place place && parent_offers t p place && names_parent row.parent p)
        && submatch (locators_at t.attrs place) row.locs (found_at m x) && nat_lt 0 (match_value m row.attach x)) o false ≡ false
    cases None = refl
    cases (Some row) = rw offered (fails (live row) (same_place row.place place) (names_parent row.parent p)
        (submatch (locators_at t.attrs place) row.locs (found_at m x)) (nat_lt 0 (match_value m row.attach x)))

pub suits_within : (t : Tables) (m : Machine) (place : Place) (x r : ℕ) → suits t m place x r ≡ true → r < length t.rows
suits_within t m place x r h = elim (cases_lt r (length t.rows)) [
  | inl less ↦ less
  | inr past ↦ let no_row : false ≡ true = rw (slice_get_past t.rows r past) at h in absurd cc
]

-- ---- what a row that is not better is: of value v with the number q, beside one of value w with the number b

pub not_above : (v w q b : ℕ) → (nat_lt w v || (v == w && nat_lt q b)) ≡ false → v ≤ w
not_above v w q b h = grind (arith, nat_tests)

pub below_earlier : (v w q b : ℕ) → (nat_lt w v || (v == w && nat_lt q b)) ≡ false → q < b → v < w
below_earlier v w q b h lt = grind (arith, nat_tests)
