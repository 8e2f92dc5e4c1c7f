use Rattle.std.proofs.Common.{◌≡◌, ◌++◌, take}
use Rattle.run_rules.specs.Run.{depth_name}
use Rattle.told_names.proofs.WalkLaws.{told_among}
use Rattle.told_names.proofs.listed_names.+push_names.Given as goal

abbrev pub decreases-push_names : goal.decreases-push_names
decreases-push_names l = l.levels

abbrev pub invariant-loop-device : goal.invariant-loop-device
invariant-loop-device l = l.names ≡ l.initial.names ++ told_among (depth_name l.going.setup) l.going.live l.levels l.depth (take l.device-index l.children)
