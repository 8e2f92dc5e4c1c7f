use Rattle.std.proofs.Common.{◌≡◌, map, filter, take}
use Rattle.run_rules.specs.World.{is_under}
use Rattle.dev_tree.proofs.lookup.subtree.Given as goal

abbrev pub invariant-loop-device : goal.invariant-loop-device
invariant-loop-device l = l.serials ≡ map (λ d. d.serial) (filter (λ d. is_under l.live l.serial d.serial) (take l.device-index l.live))
