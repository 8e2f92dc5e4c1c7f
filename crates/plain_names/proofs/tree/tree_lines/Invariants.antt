use Rattle.std.proofs.Common.{◌≡◌, map, take}
use Rattle.run_rules.specs.Tree.{dev_line}
use Rattle.plain_world.specs.Plain.{world_of}
use Rattle.plain_names.proofs.tree.tree_lines.Given as goal

abbrev pub invariant-loop-depth : goal.invariant-loop-depth
invariant-loop-depth l = l.lines ≡ map (dev_line (world_of l.rules l.plain)) (take l.depth-index l.depth-items)
