-- The first spots of devices at places.
use Rattle.std.specs.Prelude.{◌≡◌, ℕ, ◌==◌, ◌&&◌, Bool, true, false, List, Option, Some, find, flat_map, if◌then◌else◌, map, option_map, length}
use Rattle.std.specs.List.{enumerate_from}
use Rattle.std.specs.HashMap.{HashMap, get}
use Rattle.std.specs.Option.{unwrap_or}
use Rattle.cf_types.specs.declared.tables.Attach.{Attach}
use Rattle.cf_types.specs.declared.tables.Place.{Place}
use Rattle.cf_types.specs.declared.tables.Place.TheVariants.{Root, At}
use Rattle.cf_names.specs.contracts.spots.SpotKeyPartialEq.TheImpl as block
use Rattle.cf_names.specs.declared.spots.FirstSpot.{FirstSpot}
use Rattle.cf_names.specs.declared.spots.SpotKey.{SpotKey}
use Rattle.cf_names.specs.declared.spots.Spots.{Spots}

-- an attachment by its number, with its device and one of its places
pub record Spot : Type 0 where
  pub key : SpotKey
  pub attach : ℕ

-- an attachment of a device at a place
abbrev pub spot_at : ℕ → ℕ → Place → Spot
spot_at device attach place = record { key = record { device = device; place = place }; attach = attach }

-- the spots of an attachment with its number
abbrev pub spots_at : ℕ × Attach → List Spot
spots_at a = map (spot_at a.1.device a.0) a.1.places

-- all spots, in the order of attachments, then of places
abbrev pub all_spots : List Attach → List Spot
all_spots attaches = flat_map spots_at (enumerate_from 0 attaches)

-- a spot with how many stand before it
abbrev pub ranked : ℕ × Spot → FirstSpot
ranked e = record { rank = e.0; attach = e.1.attach; place = e.1.key.place }

-- the first spot that passes a test, with how many stand before it
abbrev pub first_spot : (Spot → Bool) → List Spot → Option FirstSpot
first_spot test spots = option_map ranked (find (λ e. test e.1) (enumerate_from 0 spots))

-- two places are the same
abbrev pub same_place : Place → Place → Bool
same_place Root Root = true
same_place Root (At a) = false
same_place (At a) Root = false
same_place (At a) (At b) = a == b

-- a spot is one of this device at this place
abbrev pub is_at : SpotKey → Spot → Bool
is_at key spot = (spot.key.device == key.device) && same_place spot.key.place key.place

-- a key has its first spot, and all others have what they had
abbrev pub Notes : {S : Type 0} → SpotKey → FirstSpot → HashMap SpotKey FirstSpot S → HashMap SpotKey FirstSpot S → Type 0
Notes key spot old new = (q : SpotKey) → get block.ghosts.eq new q
    ≡ (if block.ghosts.eq key q then Some (unwrap_or (get block.ghosts.eq old key) spot) else get block.ghosts.eq old q)

-- of each device the first spot at each place is noted
pub record AreSpots (spots : Spots) (all : List Spot) : Type 0 where
  pub first : (q : SpotKey) → get block.ghosts.eq spots.first q ≡ first_spot (is_at q) all
  pub count : spots.count ≡ length all
