use Rattle.std.proofs.Common.{◌∙◌, ◌&&◌, Bool, ap, sym}
use Rattle.plain_search.specs.Buses.{takes, turn_on}
use Rattle.plain_search.proofs.TurnLaws.{child_hangs, only_below}
use Rattle.plain_search.proofs.turns.child_turn.Goals as goal

pub returns-then-not-is_child : goal.returns-then-not-is_child
returns-then-not-is_child c = λ r.
    ap (λ (b : Bool). b && takes c.args.seeker.now.rules.now c.args.plain.now c.args.scan.now (turn_on c.args.bus r c.args.spot)) (sym c.is_child.ensures ∙ c.if-not-is_child.true)

pub spot_turn-requires-clause-at : goal.spot_turn-requires-clause-at
spot_turn-requires-clause-at c = child_hangs c.args.seeker.now.rules.now.machine c.args.parent c.args.bus.place c.args.spot (sym c.is_child.ensures ∙ c.if-not-is_child.false)

pub returns : goal.returns
returns c =
    only_below c.args.seeker.now.rules.now c.args.plain.now c.args.scan.now c.args.parent c.args.bus c.args.spot c.spot_turn.result (sym c.is_child.ensures ∙ c.if-not-is_child.false) c.spot_turn.ensures
