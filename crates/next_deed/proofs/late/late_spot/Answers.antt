use Rattle.std.proofs.Common.{length, ◌∙◌, arith, inl, inr, subst}
use Rattle.std.proofs.lemmas.Bool.{cases_lt}
use Rattle.run_rules.proofs.Below.{find-is, find-none}
use Rattle.run_rules.specs.Spans.{AreSpansOf}
use Rattle.run_rules.specs.World.{World}
use Rattle.next_deed.proofs.LateLaws.{late_outside}
use Rattle.next_deed.proofs.late.late_spot.Goals as goal

pub loop-spot-init : goal.loop-spot-init
loop-spot-init c = λ q lt.
    let w = c.args.going.now in
    let site = c.held.inside.site in
    late_outside w.setup site.spans w.absent w.hidden c.args.device q (subst (λ (v : World). AreSpansOf v.setup.machine site.spans) (c.held.view_is ∙ c.going.view_is) site.spanned)
    (λ covers. omega (arith, lt, (rw (← c.below-span.ensures) at covers).0))

pub returns-then-is_late_below : goal.returns-then-is_late_below
returns-then-is_late_below c =
    find-is _ (length c.args.going.now.setup.machine.spots) c.loop-spot.spot (omega arith) (c.is_late_below.ensures ∙ c.if-is_late_below.true) c.loop-spot.invariant

pub returns : goal.returns
returns c =
    let w = c.args.going.now in
    let site = c.held.inside.site in
    find-none _ (length w.setup.machine.spots) (λ q lt. elim (cases_lt q c.loop-spot.spot) [
      | inl less ↦ c.loop-spot.invariant q less
      | inr le ↦
          late_outside w.setup site.spans w.absent w.hidden c.args.device q (subst (λ (v : World). AreSpansOf v.setup.machine site.spans) (c.held.view_is ∙ c.going.view_is) site.spanned)
          (λ covers. omega (arith, lt, le, (rw (← c.below-span.ensures) at covers).1))
    ])
