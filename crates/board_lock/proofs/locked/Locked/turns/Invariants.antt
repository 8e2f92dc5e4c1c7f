use Rattle.board_lock.specs.Turning.{EventsAre}
use Rattle.board_lock.proofs.locked.Locked.turns.Given as goal

abbrev pub invariant-loop-many : goal.invariant-loop-many
invariant-loop-many g l = EventsAre g.N.Naming.opening l.initial.seat l._many l.seat
