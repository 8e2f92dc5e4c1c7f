-- Which devices are still to sleep or to wake.
use Rattle.std.specs.Prelude.{ℕ, Bool, not, ◌&&◌, ◌||◌, List, Option}
use Rattle.run_rules.specs.declared.world.Dev.{Dev}
use Rattle.run_rules.specs.World.{is_number, is_under}

-- a suspension of the target is still to put the device to sleep
abbrev pub sleeps : List Dev → ℕ → Dev → Bool
sleeps live target d = not d.asleep && is_under live target d.serial

-- the device sleeps, and is below the target or has this serial
abbrev pub wakes_below : List Dev → ℕ → Option ℕ → Dev → Bool
wakes_below live target above d = d.asleep && (is_number above d.serial || is_under live target d.serial)
