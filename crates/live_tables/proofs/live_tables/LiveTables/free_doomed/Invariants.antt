use Rattle.live_tables.proofs.Goings.{GoneSoFar}
use Rattle.live_tables.proofs.live_tables.LiveTables.free_doomed.Given as goal

abbrev pub invariant-loop-at : goal.invariant-loop-at
invariant-loop-at l = GoneSoFar l.fn.self l.self l.group l.at

abbrev pub decreases-loop-at : goal.decreases-loop-at
decreases-loop-at l = l.at
