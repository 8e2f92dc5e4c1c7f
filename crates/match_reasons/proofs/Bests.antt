-- The winner is the best candidate; where there is no winner there is no candidate.
use Rattle.std.proofs.Common.{◌≡◌, ◌<◌, ◌∙◌, ℕ, false, List, length, Option, Some, None, sym, subst}
use Rattle.cf_types.specs.declared.tables.Place.{Place}
use Rattle.run_rules.specs.declared.world.Dev.{Dev}
use Rattle.run_rules.specs.declared.world.ParentRef.{ParentRef}
use Rattle.run_rules.specs.declared.world.Setup.{Setup}
use Rattle.run_rules.specs.Search.{is_candidate, value_of, winner}
use Rattle.run_rules.proofs.Winner.{HasBest, IsBest, IsBestOf, has_best, winner_is}

pub no_candidate : (s : Setup) (live : List Dev) (p : ParentRef) (place : Place) (x : ℕ) → winner s live p place x ≡ None → (r : ℕ) → r < length s.tables.rows → is_candidate s live p place x r ≡ false
no_candidate s live p place x none = at best.best best.is
  where
    best : HasBest (is_candidate s live p place x) (λ q. value_of s q x) (length s.tables.rows)
    best = has_best (is_candidate s live p place x) (λ q. value_of s q x) (length s.tables.rows)

    differ : (b : ℕ) → None ≡ Some b → ⊥
    differ b e = absurd cc

    at : (o : Option ℕ) → IsBest (is_candidate s live p place x) (λ q. value_of s q x) (length s.tables.rows) o → (r : ℕ) → r < length s.tables.rows → is_candidate s live p place x r ≡ false
    at None is = is
    at (Some b) is = absurd (differ b (sym none ∙ winner_is s live p place x (Some b) is))

pub winner_best : (s : Setup) (live : List Dev) (p : ParentRef) (place : Place) (x q : ℕ) → winner s live p place x ≡ Some q → IsBestOf (is_candidate s live p place x) (λ r. value_of s r x) (length s.tables.rows) q
winner_best s live p place x q won =
    subst (λ (o : Option ℕ). IsBest (is_candidate s live p place x) (λ r. value_of s r x) (length s.tables.rows) o)
    (sym (winner_is s live p place x best.best best.is) ∙ won) best.is
  where
    best : HasBest (is_candidate s live p place x) (λ r. value_of s r x) (length s.tables.rows)
    best = has_best (is_candidate s live p place x) (λ r. value_of s r x) (length s.tables.rows)
