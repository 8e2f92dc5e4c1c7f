use Rattle.std.proofs.Common.{take}
use Rattle.dev_tree.specs.Branching.{AreBranchesIn}
use Rattle.dev_tree.proofs.branches.Branches.of.Given as goal

abbrev pub invariant-loop-device : goal.invariant-loop-device
invariant-loop-device l = AreBranchesIn l.live (take l.device-index l.live) l.branches
