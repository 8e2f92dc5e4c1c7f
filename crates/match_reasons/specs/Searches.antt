-- The search of a spot.
use Rattle.std.specs.Prelude.{◌≡◌, ℕ, List, Option}
use Rattle.std.specs.Option.{option_map_or}
use Rattle.run_rules.specs.declared.world.Dev.{Dev}
use Rattle.run_rules.specs.declared.world.ParentRef.{ParentRef}
use Rattle.run_rules.specs.declared.world.ParentRef.TheVariants as under
use Rattle.run_rules.specs.declared.world.Setup.{Setup}
use Rattle.run_rules.specs.Search.{parent_offers, winner}
use Rattle.run_rules.specs.World.{device_at, driver_of}
use Rattle.match_reasons.specs.Reasons.{spot_place}
use Rattle.match_reasons.specs.declared.told.Search.{Search}

-- a device as the parent of a search, or the root
abbrev pub parent_by : Setup → Option Dev → ParentRef
parent_by s parent = option_map_or (λ d. under.Dev (driver_of s d.row) d.unit) parent under.Root

-- whether the parent offers the place is known
abbrev pub HasOffers : Setup → Search → Type 0
HasOffers s search = search.offers ≡ parent_offers s.tables (parent_by s search.parent) search.place

-- and which row is the winner
pub record IsSearchOf (s : Setup) (live : List Dev) (search : Search) : Type 0 where
  pub offers : HasOffers s search
  pub winner : winner s live (parent_by s search.parent) search.place search.spot ≡ search.winner

-- it is the search of a spot below the device of a serial, or below the root
pub record IsSearchAt (s : Setup) (live : List Dev) (p x : ℕ) (search : Search) : Type 0 where
  pub of : IsSearchOf s live search
  pub parent : search.parent ≡ device_at live p
  pub place : search.place ≡ spot_place s.machine x
  pub spot : search.spot ≡ x
