use Rattle.std.proofs.Common.{arith}
use Rattle.scan_engine.proofs.BusLaws.{rows_here, rows_next, rows_over, rows_past}
use Rattle.scan_engine.proofs.bus.indirect_turn.Goals as goal

pub returns-then-from-rows : goal.returns-then-from-rows
returns-then-from-rows c = rows_past c.args.machine.now c.args.children.spot c.args.bus c.args.from c.args.rows c.requires.here (omega arith)

pub returns-in-Some : goal.returns-in-Some
returns-in-Some c = rows_here c.args.machine.now c.args.children.spot c.args.bus c.args.from c.args.rows c.in-Some.turn c.requires.here (omega arith) c.in-Some.ensures

pub returns-then-next-rows : goal.returns-then-next-rows
returns-then-next-rows c = rows_next c.args.machine.now c.args.children.spot c.args.bus c.args.from c.args.rows _ c.requires.here (omega arith) c.in-None.ensures c.row_turn-then-next-rows.ensures

pub returns-else-next-rows : goal.returns-else-next-rows
returns-else-next-rows c = rows_over c.args.machine.now c.args.children.spot c.args.bus c.args.from c.args.rows c.requires.here (omega arith) c.in-None.ensures
