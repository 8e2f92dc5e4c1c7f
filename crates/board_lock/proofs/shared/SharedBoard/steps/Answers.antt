use Rattle.std.proofs.Common.{arith}
use Rattle.board_lock.proofs.Turns.{answered, last_is}
use Rattle.board_lock.proofs.shared.SharedBoard.steps.Goals as goal

pub returns-then-may_end_waits-clause-last : goal.returns-then-may_end_waits-clause-last
returns-then-may_end_waits-clause-last g c = last_is g.N.Naming.opening c.args.seat.now c.in-Some.turn c.turns.new.seat c.in-Some.ensures

pub returns-else-may_end_waits-clause-last : goal.returns-else-may_end_waits-clause-last
returns-else-may_end_waits-clause-last g c = last_is g.N.Naming.opening c.args.seat.now c.in-Some.turn c.turns.new.seat c.in-Some.ensures

pub returns-in-None-clause-turns : goal.returns-in-None-clause-turns
returns-in-None-clause-turns g c =
    answered g.N.Naming.opening c.args.seat.now c.turns.new.seat 32 c.step.result c.step.new.seat (omega arith) c.in-None.ensures c.step.ensures

pub returns-in-None-clause-last : goal.returns-in-None-clause-last
returns-in-None-clause-last g c =
    last_is g.N.Naming.opening c.args.seat.now c.step.result c.step.new.seat
    (answered g.N.Naming.opening c.args.seat.now c.turns.new.seat 32 c.step.result c.step.new.seat (omega arith) c.in-None.ensures c.step.ensures)
