-- Outside of the stretch below a device it shows no spot.
use Rattle.std.proofs.Common.{◌≡◌, ℕ, Bool, true, false, not, ◌&&◌, List, slice_get, Option, Some, None, refl, ap, subst}
use Rattle.std.specs.Option.{option_map_or}
use Rattle.std.proofs.lemmas.Bool.{and_parts, eqb-true}
use Rattle.cf_types.specs.declared.machine.Spot.{Spot}
use Rattle.run_rules.specs.declared.world.Dev.{Dev}
use Rattle.run_rules.specs.Next.{hangs_below, offers_place}
use Rattle.run_rules.specs.World.{World, has, is_number, offered_by}
use Rattle.run_rules.specs.declared.world.Span.{Span}
use Rattle.run_rules.specs.Spans.{AreSpansOf, Covers, span_at}
use Rattle.plain_choice.specs.Late.{is_late_below}

number_is : (o : Option ℕ) (n : ℕ) → is_number o n ≡ true → o ≡ Some n
number_is None n h = absurd cc
number_is (Some m) n h = ap Some (eqb-true m n h)

below_in : (w : World) (d : Dev) (stretches : List Span) (x : ℕ) → AreSpansOf w.setup.machine stretches
    → option_map_or (hangs_below w.setup d) (slice_get w.setup.machine.spots x) false ≡ true → Covers (span_at stretches (Some d.spot)) x
below_in w d stretches x h hangs = by_spot (slice_get w.setup.machine.spots x) refl hangs
  where
    by_spot : (o : Option Spot) → slice_get w.setup.machine.spots x ≡ o → option_map_or (hangs_below w.setup d) o false ≡ true → Covers (span_at stretches (Some d.spot)) x
    by_spot None is hangs = absurd cc
    by_spot (Some spot) is hangs =
        let same : spot.parent ≡ Some d.spot = number_is spot.parent d.spot (and_parts (is_number spot.parent d.spot) (offers_place (offered_by w.setup d.row) spot.place) hangs).0 in
        subst (λ p. Covers (span_at stretches p) x) same (h x spot is)

last_false : (a b c : Bool) → c ≡ false → (a && not b && c) ≡ false
last_false true true c e = refl
last_false true false c e = e
last_false false b c e = refl

off : (b : Bool) → (b ≡ true → ⊥) → b ≡ false
off true h = absurd (h refl)
off false h = refl

pub not_late : (w : World) (d : Dev) (stretches : List Span) (x : ℕ) → AreSpansOf w.setup.machine stretches → (Covers (span_at stretches (Some d.spot)) x → ⊥) → is_late_below w d x ≡ false
not_late w d stretches x h outside = last_false (has w.hidden x) (has w.absent x) _ (off _ (λ hangs. outside (below_in w d stretches x h hangs)))
