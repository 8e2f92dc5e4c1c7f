use Rattle.std.proofs.Common.{◌≡◌, length, ◌∙◌, ap, arith, inl, inr, Some, sym}
use Rattle.std.proofs.lemmas.Bool.{cases_lt}
use Rattle.run_rules.specs.Next.{late_spot}
use Rattle.run_rules.proofs.Below.{find-is, find-none}
use Rattle.run_rules.specs.declared.world.Span.{Span}
use Rattle.plain_world.specs.Plain.{world_of}
use Rattle.run_rules.specs.Spans.{span_at}
use Rattle.plain_world.proofs.RulesLaws.{spots_are, stretches_fit}
use Rattle.plain_choice.proofs.LateLaws.{not_late}
use Rattle.plain_choice.proofs.late.late_spot.Goals as goal

pub loop-spot-init : goal.loop-spot-init
loop-spot-init c =
    let stretches = c.rules.inside.stretches.now in
    let first : c.stretch_at-below.result.first ≡ (span_at stretches (Some c.args.device.spot)).first = ap (λ (s : Span). s.first) c.stretch_at-below.ensures in
    λ q lt. not_late (world_of c.args.rules.now c.args.plain.now) c.args.device stretches q (stretches_fit c.rules.inside c.args.rules.now c.rules.invariant c.rules.view_is) (λ inside. omega (arith, inside.0, lt, first))

pub returns-then-is_late_below : goal.returns-then-is_late_below
unfolding late_spot
returns-then-is_late_below c =
    find-is _ (length c.args.rules.now.machine.spots) c.loop-spot.spot (omega (arith, spots_are c.rules.inside c.args.rules.now c.rules.view_is)) (sym c.is_late_below.ensures ∙ c.if-is_late_below.true) c.loop-spot.invariant

pub returns : goal.returns
unfolding late_spot
returns c =
    let stretches = c.rules.inside.stretches.now in
    let end : c.stretch_at-below.result.end ≡ (span_at stretches (Some c.args.device.spot)).end = ap (λ (s : Span). s.end) c.stretch_at-below.ensures in
    find-none _ (length c.args.rules.now.machine.spots) (λ q lt. elim (cases_lt q c.loop-spot.spot) [
      | inl less ↦ c.loop-spot.invariant q less
      | inr le ↦ not_late (world_of c.args.rules.now c.args.plain.now) c.args.device stretches q (stretches_fit c.rules.inside c.args.rules.now c.rules.invariant c.rules.view_is) (λ inside. omega (arith, inside.1, lt, le, end, spots_are c.rules.inside c.args.rules.now c.rules.view_is))
    ])
