-- Which spots a finaliser shows.
use Rattle.std.specs.Prelude.{ℕ, Bool, false, not, ◌&&◌, Option, option_and_then, slice_get}
use Rattle.std.specs.Option.{option_map_or}
use Rattle.run_rules.specs.declared.world.Dev.{Dev}
use Rattle.run_rules.specs.World.{World, has, device_at}
use Rattle.run_rules.specs.Next.{hangs_below, late_spot}

-- the spot is hidden and present, and hangs below the device
abbrev pub is_late_below : World → Dev → ℕ → Bool
is_late_below w d x = has w.hidden x && not (has w.absent x) && option_map_or (hangs_below w.setup d) (slice_get w.setup.machine.spots x) false

-- the spot that the finaliser of a device shows
abbrev pub shown_by : World → ℕ → Option ℕ
shown_by w serial = option_and_then (late_spot w) (device_at w.live serial)
