use Rattle.std.proofs.Common.{◌≡◌, take}
use Rattle.run_rules.specs.World.{policy_of}
use Rattle.next_deed.specs.Choices.{serials_where}
use Rattle.next_deed.proofs.hindered.undetachable_of.Given as goal

abbrev pub invariant-loop-device : goal.invariant-loop-device
invariant-loop-device l = l.serials.items ≡ serials_where (λ d. (policy_of l.going.setup d.row).nodetach) (take l.device-index l.live)
