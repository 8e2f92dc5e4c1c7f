-- The best of the rows so far is, in the end, the first of greatest worth; and it is the winner where the truth values are
-- the rows' liveness.
use Rattle.std.proofs.Common.{◌≡◌, ℕ, zero, suc, Bool, false, ◌&&◌, nat_lt, List, [], ◌∷◌, length, Option, Some, None, option_map, slice_get, slice_index_or, refl, sym, ◌∙◌, ap}
use Rattle.std.specs.Option.{option_map_or}
use Rattle.std.proofs.lemmas.Option.{slice_get-map}
use Rattle.cf_types.specs.declared.machine.Machine.{Machine}
use Rattle.cf_types.specs.declared.tables.Place.{Place}
use Rattle.cf_types.specs.declared.tables.Row.{Row}
use Rattle.cf_types.specs.declared.tables.Tables.{Tables}
use Rattle.cf_types.specs.Locators.{locators_at, submatch}
use Rattle.run_rules.specs.declared.world.Dev.{Dev}
use Rattle.run_rules.specs.declared.world.ParentRef.{ParentRef}
use Rattle.run_rules.specs.declared.world.Setup.{Setup}
use Rattle.run_rules.specs.Search.{is_live_row, fits, found_at, match_value, is_candidate, value_of, winner}
use Rattle.run_rules.proofs.Winner.{IsBest, best_alike, best_is, has_best, winner_is}
use Rattle.run_rules.specs.Suits.{worth}
use Rattle.match_search.specs.Best.{best_row, live_rows, may_take}

-- ---- the first of greatest worth

-- the best of all rows is the first of greatest worth
pub row_is : (t : Tables) (m : Machine) (live : List Bool) (p : ParentRef) (place : Place) (x : ℕ) (best : Option ℕ)
    → IsBest (may_take t m live p place x) (λ q. worth t m q x) (length t.rows) best → best ≡ best_row t m live p place x
unfolding best_row
row_is t m live p place x best h = sym (best_is (may_take t m live p place x) (λ q. worth t m q x) (length t.rows) best h)

-- ---- the winner of a world

index_is : {A : Type 0} (xs : List A) (i : ℕ) (x d : A) → slice_get xs i ≡ Some x → slice_index_or xs i d ≡ x
index_is [] i x d e = absurd cc
index_is (y ∷ ys) zero x d e = cc
index_is (y ∷ ys) (suc i) x d e = index_is ys i x d e

-- a row that may take the spot is a candidate
candidate_same : (s : Setup) (devices : List Dev) (p : ParentRef) (place : Place) (x q : ℕ)
    → may_take s.tables s.machine (live_rows s devices) p place x q ≡ is_candidate s devices p place x q
unfolding is_candidate
candidate_same s devices p place x q = cases (slice_get s.tables.rows q) refl
  where
    cases : (o : Option Row) → slice_get s.tables.rows q ≡ o
        → option_map_or (λ row. slice_index_or (live_rows s devices) q false && fits s.tables p place row
        && submatch (locators_at s.tables.attrs place) row.locs (found_at s.machine x) && nat_lt 0 (match_value s.machine row.attach x)) o false
        ≡ option_map_or (λ row. is_live_row s devices row && fits s.tables p place row
        && submatch (locators_at s.tables.attrs place) row.locs (found_at s.machine x) && nat_lt 0 (match_value s.machine row.attach x)) o false
    cases None e = refl
    cases (Some r) e =
        let mark : slice_index_or (live_rows s devices) q false ≡ is_live_row s devices r =
        index_is (live_rows s devices) q (is_live_row s devices r) false (slice_get-map (is_live_row s devices) s.tables.rows q ∙ ap (λ (o : Option Row). option_map (is_live_row s devices) o) e) in
        rw mark refl

best_wins : (s : Setup) (devices : List Dev) (p : ParentRef) (place : Place) (x : ℕ) (best : Option ℕ)
    → IsBest (may_take s.tables s.machine (live_rows s devices) p place x) (λ q. worth s.tables s.machine q x) (length s.tables.rows) best
    → winner s devices p place x ≡ best
best_wins s devices p place x best h =
    winner_is s devices p place x best
    (best_alike (may_take s.tables s.machine (live_rows s devices) p place x) (is_candidate s devices p place x) (λ q. value_of s q x) (length s.tables.rows) best
    (candidate_same s devices p place x) h)

best_row_wins : (s : Setup) (devices : List Dev) (p : ParentRef) (place : Place) (x : ℕ) (row : Option ℕ) → row ≡ best_row s.tables s.machine (live_rows s devices) p place x
    → winner s devices p place x ≡ row
best_row_wins s devices p place x row e =
    let found = has_best (may_take s.tables s.machine (live_rows s devices) p place x) (λ q. worth s.tables s.machine q x) (length s.tables.rows) in
    best_wins s devices p place x found.best found.is ∙ row_is s.tables s.machine (live_rows s devices) p place x found.best found.is ∙ sym e

pub row_wins : (t : Tables) (m : Machine) (live : List Bool) (p : ParentRef) (place : Place) (x : ℕ) (row : Option ℕ) → row ≡ best_row t m live p place x
    → (s : Setup) (devices : List Dev) → s.tables ≡ t → s.machine ≡ m → live ≡ live_rows s devices → winner s devices p place x ≡ row
row_wins t m live p place x row e s devices tables machine marks = best_row_wins s devices p place x row (rw (← tables, ← machine, marks) at e)
