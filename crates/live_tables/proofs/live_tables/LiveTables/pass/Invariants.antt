use Rattle.std.proofs.Common.{◌-◌, length}
use Rattle.live_tables.proofs.Passes.{PassSoFar}
use Rattle.live_tables.proofs.live_tables.LiveTables.pass.Given as goal

abbrev pub invariant-loop-at : goal.invariant-loop-at
invariant-loop-at l = PassSoFar l.fn.self l.self l.fn.lines.items l.lines.items l.at

abbrev pub decreases-loop-at : goal.decreases-loop-at
decreases-loop-at l = length l.fn.self.site.setup.machine.spots - l.at
