use Rattle.std.proofs.Common.{◌≡◌, map, take}
use Rattle.cf_types.specs.Offers.{named_by}
use Rattle.attr_graph.proofs.build.push_devices.Given as goal

abbrev pub invariant-loop-device : goal.invariant-loop-device
invariant-loop-device l = l.graph ≡ record l.fn.graph { devices = map named_by (take l.device-index l.devices) }
