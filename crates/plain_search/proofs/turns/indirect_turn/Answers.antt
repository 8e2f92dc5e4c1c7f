use Rattle.std.proofs.Common.{◌≡◌, ◌∙◌, ◌+◌, ap, arith, inl, inr, length, refl, subst, sym}
use Rattle.std.proofs.lemmas.Bool.{cases_lt}
use Rattle.run_rules.specs.declared.world.Span.{Span}
use Rattle.run_rules.specs.Spans.{span_at}
use Rattle.plain_world.proofs.RulesLaws.{spots_are, stretches_fit}
use Rattle.run_rules.proofs.Spans.{no_child, spans_hold}
use Rattle.plain_search.specs.Buses.{takes, takes_below, turn_on}
use Rattle.plain_search.proofs.BusLaws.{passed_by}
use Rattle.plain_search.proofs.IndirectLaws.{IsBestTo, best_more, found_best, found_early, no_spot}
use Rattle.plain_search.proofs.turns.indirect_turn.Goals as goal

pub loop-spot-init : goal.loop-spot-init
loop-spot-init c =
    let r = c.args.seeker.now.rules.now in
    let first : c.stretch_at-below.result.first ≡ (span_at c.rules.inside.stretches.now c.args.parent).first = ap (λ (s : Span). s.first) c.stretch_at-below.ensures in
    λ row x lt. no_child r.machine c.args.parent (span_at c.rules.inside.stretches.now c.args.parent) c.args.bus.place x _ (spans_hold r.machine c.rules.inside.stretches.now c.args.parent (stretches_fit c.rules.inside r c.rules.invariant c.rules.view_is)) (λ inside. omega (arith, inside.0, lt, first))

pub loop-spot-preserved : goal.loop-spot-preserved
loop-spot-preserved c =
    let r = c.args.seeker.now.rules.now in
    let T = takes_below r c.args.plain.now c.args.scan.now c.args.parent c.args.bus in
    subst (IsBestTo T (turn_on c.args.bus) (length r.tables.rows) c.first_row-least.result (c.loop-spot.spot + 1)) (sym c.better-best.ensures)
    (best_more T (turn_on c.args.bus) (length r.tables.rows) c.first_row-least.result c.loop-spot.spot c.loop-spot.best c.child_turn-turn.result (λ row x. refl) c.loop-spot.invariant
    c.child_turn-turn.ensures (sym c.is_of_least.ensures ∙ c.if-is_of_least.false))

pub returns-then-is_of_least : goal.returns-then-is_of_least
returns-then-is_of_least c =
    let r = c.args.seeker.now.rules.now in
    found_early (takes r c.args.plain.now c.args.scan.now) (turn_on c.args.bus) r.machine c.args.parent c.args.bus.place (length r.tables.rows) c.first_row-least.result c.loop-spot.spot
    c.loop-spot.best c.child_turn-turn.result c.loop-spot.invariant c.child_turn-turn.ensures (sym c.is_of_least.ensures ∙ c.if-is_of_least.true) (omega (arith, spots_are c.rules.inside r c.rules.view_is))
    (λ row x lt. passed_by r c.args.plain.now c.args.scan.now (turn_on c.args.bus row x) _ (c.first_row-least.ensures row x lt))

pub returns : goal.returns
returns c =
    let r = c.args.seeker.now.rules.now in
    let end : c.stretch_at-below.result.end ≡ (span_at c.rules.inside.stretches.now c.args.parent).end = ap (λ (s : Span). s.end) c.stretch_at-below.ensures in
    found_best (takes r c.args.plain.now c.args.scan.now) (turn_on c.args.bus) r.machine c.args.parent c.args.bus.place (length r.tables.rows) c.first_row-least.result c.loop-spot.spot
    c.loop-spot.best c.loop-spot.invariant
    (λ row x past. elim (cases_lt x (length r.machine.spots)) [
      | inl less ↦ no_child r.machine c.args.parent (span_at c.rules.inside.stretches.now c.args.parent) c.args.bus.place x _ (spans_hold r.machine c.rules.inside.stretches.now c.args.parent (stretches_fit c.rules.inside r c.rules.invariant c.rules.view_is)) (λ inside. omega (arith, inside.1, past, less, end, spots_are c.rules.inside r c.rules.view_is))
      | inr beyond ↦ no_spot r.machine c.args.parent c.args.bus.place x _ beyond
    ])
