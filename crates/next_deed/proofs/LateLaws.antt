-- A spot that a finaliser shows stands in the span of its device.
use Rattle.std.proofs.Common.{◌≡◌, ℕ, Bool, true, false, not, ◌&&◌, List, Option, Some, None, slice_get, refl, ap, subst}
use Rattle.std.specs.Option.{option_map_or}
use Rattle.std.proofs.lemmas.Bool.{eqb-true}
use Rattle.cf_types.specs.declared.machine.Spot.{Spot}
use Rattle.run_rules.specs.declared.world.Dev.{Dev}
use Rattle.run_rules.specs.declared.world.Setup.{Setup}
use Rattle.run_rules.specs.Next.{hangs_below, offers_place}
use Rattle.run_rules.specs.World.{has, is_number, offered_by}
use Rattle.run_world.specs.Late.{late_test}
use Rattle.run_rules.specs.declared.world.Span.{Span}
use Rattle.scan_engine.specs.Spans.{AreSpansOf, Covers, span_at}

and_false : (b : Bool) → (b && false) ≡ false
and_false true = refl
and_false false = refl

number_is : (o : Option ℕ) (n : ℕ) → is_number o n ≡ true → o ≡ Some n
number_is None n e = absurd cc
number_is (Some m) n e = ap Some (eqb-true m n e)

pub late_outside : (s : Setup) (spans : List Span) (absent hidden : List ℕ) (d : Dev) (x : ℕ) → AreSpansOf s.machine spans → (Covers (span_at spans (Some d.spot)) x → ⊥)
    → late_test s absent hidden d x ≡ false
late_outside s spans absent hidden d x are outside = by_spot (slice_get s.machine.spots x) refl
  where
    by_parent : (spot : Spot) → slice_get s.machine.spots x ≡ Some spot → (b : Bool) → is_number spot.parent d.spot ≡ b
        → (has hidden x && not (has absent x) && (b && offers_place (offered_by s d.row) spot.place)) ≡ false
    by_parent spot at true e = absurd (outside (subst (λ p. Covers (span_at spans p) x) (number_is spot.parent d.spot e) (are x spot at)))
    by_parent spot at false e = and_false (has hidden x && not (has absent x))

    by_spot : (o : Option Spot) → slice_get s.machine.spots x ≡ o → (has hidden x && not (has absent x) && option_map_or (hangs_below s d) o false) ≡ false
    by_spot None at = and_false (has hidden x && not (has absent x))
    by_spot (Some spot) at = by_parent spot at (is_number spot.parent d.spot) refl
