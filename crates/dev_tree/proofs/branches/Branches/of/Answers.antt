use Rattle.std.proofs.Common.{sym, subst}
use Rattle.dev_tree.specs.Tree.{AreInOrder}
use Rattle.dev_tree.proofs.Kept.{order_of}
use Rattle.dev_tree.proofs.branches.Branches.of.Goals as goal

pub put-requires-clause-order : goal.put-requires-clause-order
put-requires-clause-order c = subst AreInOrder (sym c.devices-live.ensures) (order_of _ c.stands.ensures)
