-- A finaliser that is before a caller is of a device.
use Rattle.std.specs.Prelude.{◌<◌, ⊤}
use Rattle.std.specs.List.{AllByRecursion}
use Rattle.run_rules.specs.declared.world.Frame.{Frame}
use Rattle.run_rules.specs.declared.world.Frame.TheVariants.{Scan, Finaliser}
use Rattle.run_rules.specs.World.{World, Caller}

-- a scan, or a finaliser of a device, which the root is not
abbrev pub IsOfDevice : Frame → Type 0
IsOfDevice (Scan s only wanted from) = ⊤
IsOfDevice (Finaliser s) = 0 < s

abbrev pub CallsDevices : World → Type 0
CallsDevices w = AllByRecursion (λ (c : Caller). AllByRecursion IsOfDevice c.stack) w.callers
