use Rattle.std.proofs.Common.{refl}
use Rattle.app_tasks.proofs.WatchedLaws.{also_ok, did_turn, turn_ready, where_ok}
use Rattle.app_tasks.proofs.watch.turn.Goals as goal

pub run_turns-requires-clause-agree : goal.run_turns-requires-clause-agree
run_turns-requires-clause-agree c = c.requires.ready.agree

pub run_turns-requires-clause-goes_on : goal.run_turns-requires-clause-goes_on
run_turns-requires-clause-goes_on c = c.requires.ready.goes_on

pub run_turns-requires-clause-callers : goal.run_turns-requires-clause-callers
run_turns-requires-clause-callers c = (c.requires.caller, tt)

pub returns-clause-takes : goal.returns-clause-takes
returns-clause-takes c = where_ok _ _ c.take_in.result c.take_in.ensures.ok (λ takes. did_turn c.args.caller c.args.watch.now _ c.in_ok-run_turns.ensures.played takes refl)

pub returns-clause-ready : goal.returns-clause-ready
returns-clause-ready c =
    also_ok _ c.take_in.result (turn_ready c.args.watch.now.board.world.setup c.args.caller c.args.watch.now _ c.requires.ready c.in_ok-run_turns.ensures.played c.run_turns.ensures.agree)
