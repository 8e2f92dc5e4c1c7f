use Rattle.std.proofs.Common.{◌≡◌, map, take}
use Rattle.run_rules.specs.World.{children, name_of}
use Rattle.told_names.proofs.listed_names.child_names.Given as goal

abbrev pub invariant-loop-device : goal.invariant-loop-device
invariant-loop-device l = l.names ≡ map (name_of l.going.setup) (children (take l.device-index l.live) l.serial)
