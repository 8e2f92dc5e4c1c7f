-- A device that comes takes units, and so there are fewer candidates; where there is one there is a winner.
use Rattle.std.proofs.Common.{◌≡◌, ◌<◌, ◌≤◌, ℕ, zero, suc, Bool, true, false, not, ◌&&◌, ◌||◌, ◌==◌, nat_lt, List, [], ◌∷◌, ◌++◌, length, Option, Some, None, refl, sym, ◌∙◌, inl, inr, arith, slice_get}
use Rattle.std.specs.Option.{option_map_or}
use Rattle.std.proofs.lemmas.Bool.{cases_lt}
use Rattle.std.proofs.lemmas.List.Folds.{list_any-append}
use Rattle.cf_types.specs.Locators.{locators_at, submatch}
use Rattle.cf_types.specs.declared.tables.Place.{Place}
use Rattle.cf_types.specs.declared.tables.Row.{Row}
use Rattle.run_rules.specs.declared.world.Setup.{Setup}
use Rattle.run_rules.specs.declared.world.Dev.{Dev}
use Rattle.run_rules.specs.declared.world.ParentRef.{ParentRef}
use Rattle.run_rules.specs.World.{driver_of, row_at}
use Rattle.run_rules.specs.Search.{fits, found_at, is_candidate, is_live_row, is_taken, match_value, value_of, winner}
use Rattle.run_rules.proofs.Winner.{HasBest, IsBest, has_best, winner_is}

-- ---- rows

freed_row : (star a b : Bool) → (star || not (a || b)) ≡ true → (star || not a) ≡ true
freed_row true a b h = refl
freed_row false true b h = absurd cc
freed_row false false b h = refl

fewer_live_rows : (s : Setup) (live more : List Dev) (row : Row) → is_live_row s (live ++ more) row ≡ true → is_live_row s live row ≡ true
fewer_live_rows s live more row h =
    let both = list_any-append (λ (e : Dev). driver_of s e.row == row.device && e.unit == row.unit) live more in
    freed_row row.star (is_taken s live row.device row.unit) (is_taken s more row.device row.unit) (rw both at h)

pub first_of : (a b e f c : Bool) → (a ≡ true → b ≡ true) → (a && e && f && c) ≡ true → (b && e && f && c) ≡ true
first_of true b e f c more h = rw (more refl) h
first_of false b e f c more h = absurd cc

-- what is a candidate once more devices live was one before
pub fewer_candidates : (s : Setup) (live more : List Dev) (p : ParentRef) (place : Place) (x r : ℕ) → is_candidate s (live ++ more) p place x r ≡ true → is_candidate s live p place x r ≡ true
unfolding is_candidate
fewer_candidates s live more p place x r = cases (row_at s r)
  where
    test : List Dev → Row → Bool
    test live row =
        is_live_row s live row && fits s.tables p place row && submatch (locators_at s.tables.attrs place) row.locs (found_at s.machine x) && nat_lt 0 (match_value s.machine row.attach x)

    cases : (o : Option Row) → option_map_or (test (live ++ more)) o false ≡ true → option_map_or (test live) o false ≡ true
    cases None h = absurd cc
    cases (Some row) h =
        first_of (is_live_row s (live ++ more) row) (is_live_row s live row) (fits s.tables p place row) (submatch (locators_at s.tables.attrs place) row.locs (found_at s.machine x))
        (nat_lt 0 (match_value s.machine row.attach x)) (fewer_live_rows s live more row) h

-- a row past the last one is none
pub row_past : (s : Setup) (live : List Dev) (p : ParentRef) (place : Place) (x r : ℕ) → length s.tables.rows ≤ r → is_candidate s live p place x r ≡ false
unfolding is_candidate
row_past s live p place x r past = rw (past_end s.tables.rows r past) refl
  where
    past_end : {A : Type 0} (xs : List A) (i : ℕ) → length xs ≤ i → slice_get xs i ≡ None
    past_end [] i le = refl
    past_end (y ∷ xs) zero le = absurd (omega arith)
    past_end (y ∷ xs) (suc i) le = past_end xs i (omega arith)

-- ---- the winner

-- where there is no winner there is no candidate
pub no_candidate : (s : Setup) (live : List Dev) (p : ParentRef) (place : Place) (x : ℕ) → winner s live p place x ≡ None → (r : ℕ) → is_candidate s live p place x r ≡ false
no_candidate s live p place x none r = elim (cases_lt r rows) [
  | inl less ↦ at best.best best.is r less
  | inr past ↦ row_past s live p place x r past
]
  where
    rows : ℕ
    rows = length s.tables.rows

    test : ℕ → Bool
    test = is_candidate s live p place x

    value : ℕ → ℕ
    value q = value_of s q x

    best : HasBest test value rows
    best = has_best test value rows

    at : (o : Option ℕ) → IsBest test value rows o → (r : ℕ) → r < rows → test r ≡ false
    at None is = is
    at (Some b) is = absurd (clash (sym none ∙ winner_is s live p place x (Some b) is))
      where
        clash : None ≡ Some b → ⊥
        clash e = cc
