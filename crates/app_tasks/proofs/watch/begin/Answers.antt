use Rattle.std.proofs.Common.{sym}
use Rattle.run_rules.specs.World.{setup_of}
use Rattle.app_tasks.proofs.WatchedLaws.{begins_ready}
use Rattle.app_tasks.proofs.watch.begin.Goals as goal

pub returns-in-Ok-clause-ready : goal.returns-in-Ok-clause-ready
returns-in-Ok-clause-ready c =
    begins_ready (setup_of c.args.tables c.args.machine c.args.scripts) _ c.spots.result c.in_ok-board.ensures.world c.in_ok-board.ensures.stops.1 c.spots.ensures c.in-Ok.ensures

pub returns-in-Ok-clause-at : goal.returns-in-Ok-clause-at
returns-in-Ok-clause-at c = record { events = sym c.in_ok-board.ensures.events; stands = c.make-in-Ok.ensures }
