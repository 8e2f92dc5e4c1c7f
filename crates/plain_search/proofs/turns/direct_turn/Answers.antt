use Rattle.std.proofs.Common.{◌≡◌, ◌∙◌, ap, arith, inl, inr, length, sym, Some}
use Rattle.std.specs.Prelude.{option_map}
use Rattle.std.proofs.lemmas.Bool.{cases_lt}
use Rattle.run_rules.proofs.Below.{find-is, find-none}
use Rattle.run_rules.proofs.Turns.{find_children}
use Rattle.run_rules.specs.declared.world.Span.{Span}
use Rattle.run_rules.specs.Spans.{span_at}
use Rattle.plain_world.proofs.RulesLaws.{spots_are, stretches_fit}
use Rattle.run_rules.proofs.Spans.{no_child, spans_hold}
use Rattle.plain_search.specs.Buses.{takes, turn_on}
use Rattle.plain_search.proofs.Both.{both_true}
use Rattle.plain_search.proofs.BusLaws.{passed_by}
use Rattle.plain_search.proofs.turns.direct_turn.Goals as goal

pub loop-spot-init : goal.loop-spot-init
loop-spot-init c =
    let m = c.args.rules.now.machine in
    let stretches = c.rules.inside.stretches.now in
    let first : c.stretch_at-below.result.first ≡ (span_at stretches c.args.parent).first = ap (λ (s : Span). s.first) c.stretch_at-below.ensures in
    λ x lt. elim (cases_lt x c.first_spot.result) [
      | inl before ↦ passed_by c.args.rules.now c.args.plain.now c.args.scan.now (turn_on c.args.bus 0 x) _ (c.first_spot.ensures x before)
      | inr past ↦ no_child m c.args.parent (span_at stretches c.args.parent) c.args.bus.place x _ (spans_hold m stretches c.args.parent (stretches_fit c.rules.inside c.args.rules.now c.rules.invariant c.rules.view_is)) (λ inside. omega (arith, inside.0, lt, past, first))
    ]

pub returns-then-is_next : goal.returns-then-is_next
returns-then-is_next c =
    let q = takes c.args.rules.now c.args.plain.now c.args.scan.now in
    find_children q (turn_on c.args.bus 0) c.args.rules.now.machine c.args.parent c.args.bus.place
    ∙ ap (option_map (turn_on c.args.bus 0))
    (find-is _ (length c.args.rules.now.machine.spots) c.loop-spot.spot (omega (arith, spots_are c.rules.inside c.args.rules.now c.rules.view_is))
    (both_true _ _ (sym c.is_child.ensures ∙ c.if-is_child.true) (ap q (sym c.turn_on-turn.ensures) ∙ sym c.is_next.ensures ∙ c.if-is_next.true)) c.loop-spot.invariant)
    ∙ ap Some (sym c.turn_on-turn.ensures)

pub returns : goal.returns
returns c =
    let m = c.args.rules.now.machine in
    let stretches = c.rules.inside.stretches.now in
    let end : c.stretch_at-below.result.end ≡ (span_at stretches c.args.parent).end = ap (λ (s : Span). s.end) c.stretch_at-below.ensures in
    find_children (takes c.args.rules.now c.args.plain.now c.args.scan.now) (turn_on c.args.bus 0) m c.args.parent c.args.bus.place
    ∙ ap (option_map (turn_on c.args.bus 0))
    (find-none _ (length m.spots) (λ x lt. elim (cases_lt x c.loop-spot.spot) [
      | inl less ↦ c.loop-spot.invariant x less
      | inr le ↦ no_child m c.args.parent (span_at stretches c.args.parent) c.args.bus.place x _ (spans_hold m stretches c.args.parent (stretches_fit c.rules.inside c.args.rules.now c.rules.invariant c.rules.view_is)) (λ inside. omega (arith, inside.1, lt, le, end, spots_are c.rules.inside c.args.rules.now c.rules.view_is))
    ]))
