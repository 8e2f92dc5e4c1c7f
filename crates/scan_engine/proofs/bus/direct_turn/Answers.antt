use Rattle.std.proofs.Common.{◌∙◌, ap, map, arith}
use Rattle.run_rules.specs.Search.{child_spots}
use Rattle.scan_engine.specs.Buses.{turn_on}
use Rattle.scan_engine.specs.Turns.{first_from}
use Rattle.scan_engine.proofs.BusLaws.{row_before}
use Rattle.scan_engine.proofs.Positions.{position_is}
use Rattle.scan_engine.proofs.bus.direct_turn.Goals as goal

pub returns-then-from-gt0 : goal.returns-then-from-gt0
returns-then-from-gt0 c = row_before c.args.machine.now c.args.children.spot c.args.bus c.args.from 0 c.requires.here (omega arith)

pub returns : goal.returns
returns c =
    ap (first_from (map (turn_on c.args.bus 0) (child_spots c.args.machine.now c.args.children.spot c.args.bus.place))) (position_is c.args.from c.args.bus.attr 0 c.requires.here (omega arith))
    ∙ c.row_turn.ensures
