use Rattle.live_tables.proofs.Offers.{DeviceSoFar}
use Rattle.live_tables.proofs.live_tables.LiveTables.search_device.Given as goal

abbrev pub invariant-loop-at : goal.invariant-loop-at
invariant-loop-at l = DeviceSoFar l.fn.self l.self l.fn.lines.items l.lines.items l.parent l.driver l.at
