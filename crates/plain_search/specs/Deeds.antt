-- Which device comes or goes by a deed.
use Rattle.std.specs.Prelude.{ℕ, Option, Some, None}
use Rattle.run_rules.specs.declared.world.Arrival.{Arrival}
use Rattle.run_rules.specs.declared.deed.Deed.{Deed}
use Rattle.run_rules.specs.declared.deed.Deed.TheVariants.{Search, Finalise, Free}

-- the device that comes
abbrev pub coming : Deed → Option Arrival
coming (Search p spot to got) = got
coming (Finalise s shown got listed anew) = got
coming _ = None

-- the serial of the device that goes
abbrev pub going : Deed → Option ℕ
going (Free s) = Some s
going _ = None
