use Rattle.std.proofs.Common.{arith}
use Rattle.every_order.proofs.Ordering.{order_whole}
use Rattle.every_order.proofs.ways.order_to.Goals as goal

pub returns : goal.returns
returns c = order_whole c.args.met.now c.args.place c.loop-at.at c.loop-at.order.items c.requires.place (omega (arith, c.loop-at-test.false)) c.loop-at.invariant
