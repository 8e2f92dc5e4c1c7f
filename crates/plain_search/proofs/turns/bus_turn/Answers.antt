use Rattle.std.proofs.Common.{◌∙◌, ap}
use Rattle.std.specs.Prelude.{find}
use Rattle.plain_search.specs.Buses.{takes}
use Rattle.plain_search.proofs.BusLaws.{direct_is, indirect_is}
use Rattle.plain_search.proofs.turns.bus_turn.Goals as goal

pub returns-then-bus : goal.returns-then-bus
returns-then-bus c =
    ap (find (takes c.args.seeker.now.rules.now c.args.plain.now c.args.scan.now)) (indirect_is c.args.seeker.now.rules.now c.args.parent c.args.bus c.if-bus.true) ∙ c.indirect_turn.ensures

pub returns-else-bus : goal.returns-else-bus
returns-else-bus c =
    ap (find (takes c.args.seeker.now.rules.now c.args.plain.now c.args.scan.now)) (direct_is c.args.seeker.now.rules.now c.args.parent c.args.bus c.if-bus.false) ∙ c.direct_turn.ensures
