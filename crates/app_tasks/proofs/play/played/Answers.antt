use Rattle.run_rules.specs.World.{setup_of}
use Rattle.app_tasks.proofs.RanLaws.{callers_of, play_of}
use Rattle.app_tasks.proofs.play.played.Goals as goal

pub run_turns-requires-clause-agree : goal.run_turns-requires-clause-agree
run_turns-requires-clause-agree c = c.in_ok-board.ensures.agree

pub run_turns-requires-clause-goes_on : goal.run_turns-requires-clause-goes_on
run_turns-requires-clause-goes_on c = c.in_ok-board.ensures.goes_on

pub run_turns-requires-clause-callers : goal.run_turns-requires-clause-callers
run_turns-requires-clause-callers c =
    callers_of c.args.tables c.args.machine c.args.scripts c.in_ok-board.board c.in_ok-board.slots c.args.order.now c.in_ok-board.ensures c.requires.turns

pub returns-in-Ok : goal.returns-in-Ok
returns-in-Ok c =
    play_of (setup_of c.args.tables c.args.machine c.args.scripts) c.in_ok-board.board c.run_turns.new.board c.in_ok-board.slots c.args.order.now
    c.in_ok-board.ensures c.in-Ok.ensures.played c.stands.ensures.reliable c.stands.ensures.thorough
