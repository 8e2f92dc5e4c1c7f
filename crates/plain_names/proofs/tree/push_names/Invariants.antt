use Rattle.std.proofs.Common.{◌≡◌, ◌++◌, map, take}
use Rattle.run_rules.specs.Run.{depth_name}
use Rattle.plain_names.proofs.tree.push_names.Given as goal

abbrev pub invariant-loop-depth : goal.invariant-loop-depth
invariant-loop-depth l = l.names ≡ l.initial.names ++ map (depth_name l.rules) (take l.depth-index l.placed)
