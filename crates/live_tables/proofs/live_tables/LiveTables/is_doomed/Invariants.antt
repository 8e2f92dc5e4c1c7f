use Rattle.std.proofs.Common.{◌≡◌}
use Rattle.live_rules.specs.Live.{is_doomed}
use Rattle.live_tables.proofs.live_tables.LiveTables.is_doomed.Given as goal

abbrev pub invariant-loop-device : goal.invariant-loop-device
invariant-loop-device l = is_doomed l.fn.self.site l.fn.self.world.live l.group l.fn.serial ≡ is_doomed l.fn.self.site l.fn.self.world.live l.group l.serial

abbrev pub decreases-loop-device : goal.decreases-loop-device
decreases-loop-device l = l.serial
