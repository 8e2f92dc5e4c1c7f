use Rattle.every_order.proofs.Indexing.{IsAtOrBefore, left_at}
use Rattle.every_order.proofs.known.has_world.Given as goal

abbrev pub invariant-loop-at : goal.invariant-loop-at
invariant-loop-at l = IsAtOrBefore l.known.met.items l.print l.plain l.at

abbrev pub decreases-loop-at : goal.decreases-loop-at
decreases-loop-at l = left_at l.at
