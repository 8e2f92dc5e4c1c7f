use Rattle.std.proofs.Common.{◌-◌}
use Rattle.dev_monitor.specs.Queues.{IsOf}
use Rattle.dev_monitor.specs.Subscribers.{Watched}
use Rattle.app_tasks.proofs.WatchedLaws.{IsLeft}
use Rattle.app_tasks.proofs.watch.read_notes.Given as goal

-- each read up to here told something
abbrev pub invariant-loop : goal.invariant-loop
invariant-loop l = (g : Watched) → IsOf g l.initial.monitor → (v : Watched) × IsOf v l.monitor × IsLeft l.who (l.most - l.counter) l.most g v l.initial.told l.told
