use Rattle.std.proofs.Common.{◌≡◌, map, take}
use Rattle.run_rules.specs.After.{with_condemner}
use Rattle.plain_world.proofs.live.all_condemned.Given as goal

abbrev pub invariant-loop-device : goal.invariant-loop-device
invariant-loop-device l = l.devices.items ≡ map (with_condemner l.live.devices l.caller l.above) (take l.device-index l.listed)
