use Rattle.std.proofs.Common.{None, arith, subst, sym}
use Rattle.board_lock.specs.Turning.{TriesAre}
use Rattle.board_lock.proofs.Turns.{answered, event_more, none_yet, tried}
use Rattle.board_lock.proofs.locked.Locked.turns.Goals as goal

pub loop-many-init : goal.loop-many-init
loop-many-init g c = none_yet g.N.Naming.opening c.args.seat.now

pub loop-many-preserved : goal.loop-many-preserved
loop-many-preserved g c =
    event_more g.N.Naming.opening c.args.seat.now c.loop-many.seat c.loop-many._many c.in_ok-turn.turn c.turn.new.seat c.loop-many.invariant (c.is_quiet.ensures c.if-not-is_quiet.false)
    c.in_ok-turn.ensures

pub returns-in_err-turn : goal.returns-in_err-turn
returns-in_err-turn g c =
    let below = c.loop-many-test.true in
    subst (λ z. TriesAre g.N.Naming.opening c.args.seat.now z c.turn.new.seat) (sym c.from_residual.ensures)
    (tried g.N.Naming.opening c.args.seat.now c.loop-many.seat c.loop-many._many None c.turn.new.seat (omega arith) c.loop-many.invariant c.in_err-turn.ensures)

pub returns-then-not-is_quiet : goal.returns-then-not-is_quiet
returns-then-not-is_quiet g c =
    let below = c.loop-many-test.true in
    answered g.N.Naming.opening c.args.seat.now c.loop-many.seat c.loop-many._many c.in_ok-turn.turn c.turn.new.seat (omega arith) c.loop-many.invariant c.in_ok-turn.ensures

pub returns : goal.returns
returns g c =
    let end = c.loop-many.auto._many-end (omega arith) in
    tried g.N.Naming.opening c.args.seat.now c.loop-many.seat c.loop-many._many c.turn-2.result c.turn-2.new.seat (omega arith) c.loop-many.invariant c.turn-2.ensures
