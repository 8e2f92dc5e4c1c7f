use Rattle.std.proofs.Common.{◌≡◌, find, drop}
use Rattle.std.specs.Prelude.{bytes_eq}
use Rattle.run_rules.specs.World.{device_named, name_of}
use Rattle.plain_names.proofs.names.first_called.Given as goal

abbrev pub invariant-loop-device : goal.invariant-loop-device
invariant-loop-device l = find (λ d. bytes_eq (name_of l.rules d) l.name) (drop l.device-index l.devices) ≡ device_named l.rules l.devices l.name
