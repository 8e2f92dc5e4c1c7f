use Rattle.std.proofs.Common.{◌≡◌, find, drop}
use Rattle.run_rules.specs.World.{device_named, name_of}
use Rattle.std.specs.Prelude.{bytes_eq}
use Rattle.run_world.proofs.named.device_named.Given as goal

abbrev pub invariant-loop-device : goal.invariant-loop-device
invariant-loop-device l = find (λ d. bytes_eq (name_of l.setup d) l.name) (drop l.device-index l.core.tree.live) ≡ device_named l.setup l.core.tree.live l.name
