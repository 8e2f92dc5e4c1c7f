use Rattle.std.proofs.Common.{◌≡◌}
use Rattle.live_tables.proofs.Dooms.{dooms_to}
use Rattle.live_tables.proofs.live_tables.LiveTables.doomed.Given as goal

abbrev pub invariant-loop-device : goal.invariant-loop-device
invariant-loop-device l = l.marks.items ≡ dooms_to l.fn.self l.group l.device-index
