use Rattle.std.proofs.Common.{◌≡◌, ◌++◌, take}
use Rattle.run_rules.specs.Tree.{dev_line}
use Rattle.told_names.proofs.WalkLaws.{told_among}
use Rattle.told_names.proofs.tree.+push_below.Given as goal

abbrev pub decreases-push_below : goal.decreases-push_below
decreases-push_below l = l.levels

abbrev pub invariant-loop-device : goal.invariant-loop-device
invariant-loop-device l = l.lines ≡ l.initial.lines ++ told_among (dev_line l.going) l.going.live l.levels l.depth (take l.device-index l.children)
