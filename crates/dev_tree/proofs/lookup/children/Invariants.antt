use Rattle.std.proofs.Common.{◌≡◌, map, filter, take, ◌==◌}
use Rattle.dev_tree.proofs.lookup.children.Given as goal

abbrev pub invariant-loop-device : goal.invariant-loop-device
invariant-loop-device l = l.serials ≡ map (λ d. d.serial) (filter (λ d. d.parent == l.serial) (take l.device-index l.live))
