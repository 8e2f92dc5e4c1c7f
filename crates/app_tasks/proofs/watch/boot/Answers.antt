use Rattle.std.proofs.Common.{refl}
use Rattle.app_tasks.proofs.WatchedLaws.{also_ok, boot_ready, did_boot, where_ok}
use Rattle.app_tasks.proofs.watch.boot.Goals as goal

pub run_boot-requires-clause-agree : goal.run_boot-requires-clause-agree
run_boot-requires-clause-agree c = c.requires.ready.agree

pub run_boot-requires-clause-goes_on : goal.run_boot-requires-clause-goes_on
run_boot-requires-clause-goes_on c = c.requires.ready.goes_on

pub returns-clause-takes : goal.returns-clause-takes
returns-clause-takes c = where_ok _ _ c.take_in.result c.take_in.ensures.ok (λ takes. did_boot c.args.watch.now _ c.in_ok-run_boot.ensures.booted takes refl)

pub returns-clause-ready : goal.returns-clause-ready
returns-clause-ready c =
    also_ok _ c.take_in.result (boot_ready c.args.watch.now.board.world.setup c.args.watch.now _ c.requires.ready c.in_ok-run_boot.ensures.booted c.run_boot.ensures.agree)
