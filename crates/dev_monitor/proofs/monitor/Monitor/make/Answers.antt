use Rattle.std.proofs.Common.{refl}
use Rattle.dev_monitor.proofs.WatchLaws.{nothing_yet}
use Rattle.dev_monitor.proofs.monitor.Monitor.make.Goals as goal

pub returns : goal.returns
returns c = nothing_yet _ refl c.new.ensures.empty c.new-2.ensures.items
