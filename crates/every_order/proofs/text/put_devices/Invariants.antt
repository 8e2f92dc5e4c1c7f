use Rattle.std.proofs.Common.{◌≡◌, ◌++◌, flat_map}
use Rattle.std.proofs.Common.{take}
use Rattle.cf_types.specs.Lines.{ended}
use Rattle.run_rules.specs.Tree.{dev_text}
use Rattle.every_order.proofs.text.put_devices.Given as goal

abbrev pub invariant-loop-device : goal.invariant-loop-device
invariant-loop-device l = l.out.items ≡ l.initial.out.items ++ flat_map (λ d. ended (dev_text d)) (take l.device-index l.devices)
