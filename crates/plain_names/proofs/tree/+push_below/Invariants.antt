use Rattle.std.proofs.Common.{◌≡◌, ◌++◌}
use Rattle.plain_names.proofs.KinLaws.{told_of}
use Rattle.plain_names.proofs.tree.+push_below.Given as goal

abbrev pub decreases-push_below : goal.decreases-push_below
decreases-push_below l = l.levels

abbrev pub invariant-loop-index : goal.invariant-loop-index
invariant-loop-index l = l.placed.items ≡ l.initial.placed.items ++ told_of l.near l.kin.live.now l.levels l.depth l.parent l.index
