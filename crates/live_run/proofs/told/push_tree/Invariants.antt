use Rattle.std.proofs.Common.{◌≡◌, ◌++◌, ◌∷◌, codes, map, take}
use Rattle.run_rules.specs.Tree.{dev_text}
use Rattle.live_run.proofs.told.push_tree.Given as goal

abbrev pub invariant-loop-device : goal.invariant-loop-device
invariant-loop-device l = l.lines ≡ l.fn.lines ++ codes "tree" ∷ map dev_text (take l.device-index l.devices)
