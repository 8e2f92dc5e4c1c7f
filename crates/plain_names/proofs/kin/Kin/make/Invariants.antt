use Rattle.std.proofs.Common.{take}
use Rattle.plain_names.specs.Kin.{HaveChildren}
use Rattle.plain_names.proofs.kin.Kin.make.Given as goal

abbrev pub invariant-loop-device : goal.invariant-loop-device
invariant-loop-device l = HaveChildren (take l.device-index l.live) l.lists.items
