-- The first spot of a device that suits an instance.
use Rattle.std.specs.Prelude.{ℕ, ◌==◌, Bool, false, if◌then◌else◌, List, nat_lt, Option, Some, None}
use Rattle.std.specs.List.{list_any}
use Rattle.cf_types.specs.declared.instance.AttachPlace.{AttachPlace}
use Rattle.cf_types.specs.declared.tables.Place.{Place}
use Rattle.cf_types.specs.declared.tables.Place.TheVariants.{Root, At}
use Rattle.cf_names.specs.declared.spots.FirstSpot.{FirstSpot}

-- the place is one of these attributes
abbrev pub offered : List ℕ → Place → Bool
offered attrs Root = false
offered attrs (At a) = list_any (λ x. x == a) attrs

-- the one of two spots before which fewer stand
abbrev pub earlier : Option FirstSpot → Option FirstSpot → Option FirstSpot
earlier None other = other
earlier (Some spot) None = Some spot
earlier (Some spot) (Some other) = if nat_lt other.rank spot.rank then Some other else Some spot

-- an attachment with its place
abbrev pub place_of : FirstSpot → AttachPlace
place_of s = record { attach = s.attach; place = s.place }
