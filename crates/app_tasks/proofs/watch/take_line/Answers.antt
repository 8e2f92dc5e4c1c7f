use Rattle.std.proofs.Common.{refl}
use Rattle.app_tasks.proofs.WatchedLaws.{also_ok, read_taken, still_ready, sub_taken}
use Rattle.app_tasks.proofs.watch.take_line.Goals as goal

pub returns-in-Read-clause-takes : goal.returns-in-Read-clause-takes
returns-in-Read-clause-takes c =
    read_taken c.args.line c.in-Read.who c.in-Read.most c.args.watch.now _ c.read_notes.result c.in-Read.is c.read_notes.ensures.told c.read_notes.ensures.left refl

pub returns-in-Sub-clause-takes : goal.returns-in-Sub-clause-takes
returns-in-Sub-clause-takes c =
    sub_taken c.args.line c.in-Sub.who c.in-Sub.room c.args.watch.now _ c.subscribe.result c.in-Sub.is c.subscribe.ensures.ok refl refl

pub returns-in-Read-clause-ready : goal.returns-in-Read-clause-ready
returns-in-Read-clause-ready c =
    also_ok _ c.read_notes.result (still_ready c.args.watch.now.board.world.setup c.args.watch.now _ c.requires.ready refl refl)

pub returns-in-Sub-clause-ready : goal.returns-in-Sub-clause-ready
returns-in-Sub-clause-ready c =
    also_ok _ c.subscribe.result (still_ready c.args.watch.now.board.world.setup c.args.watch.now _ c.requires.ready refl refl)
