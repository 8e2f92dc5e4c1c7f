use Rattle.every_order.proofs.Ordering.{IsPartOrder}
use Rattle.every_order.proofs.ways.order_to.Given as goal

abbrev pub invariant-loop-at : goal.invariant-loop-at
invariant-loop-at l = IsPartOrder l.met l.place l.at l.order.items

abbrev pub decreases-loop-at : goal.decreases-loop-at
decreases-loop-at l = l.at
