-- Which spots a finaliser shows.
use Rattle.std.specs.Prelude.{ℕ, Bool, false, not, ◌&&◌, List, Option, option_and_then, slice_get}
use Rattle.std.specs.Option.{option_map_or}
use Rattle.cf_types.specs.declared.tables.Place.{Place}
use Rattle.cf_types.specs.declared.tables.Place.TheVariants.{Root}
use Rattle.run_rules.specs.declared.world.Setup.{Setup}
use Rattle.run_rules.specs.declared.world.Dev.{Dev}
use Rattle.run_rules.specs.World.{World, has, device_at}
use Rattle.run_rules.specs.Next.{hangs_below, late_spot}

-- the spot is hidden and present, and hangs below the device
abbrev pub late_test : Setup → List ℕ → List ℕ → Dev → ℕ → Bool
late_test s absent hidden d x = has hidden x && not (has absent x) && option_map_or (hangs_below s d) (slice_get s.machine.spots x) false

abbrev pub place_on : Setup → ℕ → Place
place_on s x = option_map_or (λ spot. spot.place) (slice_get s.machine.spots x) Root

-- the spot that the finaliser of a device shows
abbrev pub shown_by : World → ℕ → Option ℕ
shown_by w serial = option_and_then (late_spot w) (device_at w.live serial)
