use Rattle.live_tables.proofs.Frees.{FreedSoFar}
use Rattle.live_tables.proofs.live_tables.LiveTables.push_freed.Given as goal

abbrev pub invariant-loop-at : goal.invariant-loop-at
invariant-loop-at l = FreedSoFar l.fn.self l.group l.initial.lines.items l.lines.items l.at

abbrev pub decreases-loop-at : goal.decreases-loop-at
decreases-loop-at l = l.at
