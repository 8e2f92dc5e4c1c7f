use Rattle.std.proofs.Common.{◌∙◌, ap}
use Rattle.scan_engine.specs.Turns.{first_from}
use Rattle.scan_engine.proofs.BusLaws.{direct_is, indirect_is}
use Rattle.scan_engine.proofs.bus.bus_turn.Goals as goal

pub returns-then-bus : goal.returns-then-bus
returns-then-bus c =
    ap (λ ts. first_from ts c.args.from) (indirect_is c.args.machine.now c.args.rows c.args.children.spot c.args.bus c.if-bus.true) ∙ c.indirect_turn.ensures

pub returns-else-bus : goal.returns-else-bus
returns-else-bus c =
    ap (λ ts. first_from ts c.args.from) (direct_is c.args.machine.now c.args.rows c.args.children.spot c.args.bus c.if-bus.false) ∙ c.direct_turn.ensures
