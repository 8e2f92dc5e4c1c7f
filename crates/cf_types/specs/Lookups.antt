-- What has a name in a list: its number there, or itself, the first if there are more.
use Rattle.std.specs.Prelude.{ℕ, Bool, List, find, position, bytes_eq, Option}
use Rattle.std.specs.List.{list_any}
use Rattle.cf_types.specs.declared.machine.Spot.{Spot}
use Rattle.cf_types.specs.declared.stmt.GivenLoc.{GivenLoc}
use Rattle.cf_types.specs.declared.tables.Attach.{Attach}
use Rattle.cf_types.specs.declared.tables.Attr.{Attr}
use Rattle.cf_types.specs.declared.tables.Device.{Device}
use Rattle.cf_types.specs.declared.tables.Locator.{Locator}

-- the number of a name itself
abbrev pub place_of_name : List (List ℕ) → List ℕ → Option ℕ
place_of_name names name = position (λ n. bytes_eq n name) names

-- the number of an attribute
abbrev pub attr_number : List Attr → List ℕ → Option ℕ
attr_number attrs name = position (λ a. bytes_eq a.name name) attrs

-- the number of a device
abbrev pub device_number : List Device → List ℕ → Option ℕ
device_number devices name = position (λ d. bytes_eq d.name name) devices

-- the number of an attachment
abbrev pub attach_number : List Attach → List ℕ → Option ℕ
attach_number attaches name = position (λ a. bytes_eq a.name name) attaches

-- the number of a spot
abbrev pub spot_number : List Spot → List ℕ → Option ℕ
spot_number spots name = position (λ s. bytes_eq s.name name) spots

-- an attribute
abbrev pub attr_named : List Attr → List ℕ → Option Attr
attr_named attrs name = find (λ a. bytes_eq a.name name) attrs

-- a locator
abbrev pub locator_named : List Locator → List ℕ → Option Locator
locator_named locs name = find (λ l. bytes_eq l.name name) locs

-- the locator value that is given for a name
abbrev pub given_named : List GivenLoc → List ℕ → Option GivenLoc
given_named pairs name = find (λ g. bytes_eq g.name name) pairs

-- an attachment has this name
abbrev pub has_attach : List Attach → List ℕ → Bool
has_attach attaches name = list_any (λ a. bytes_eq a.name name) attaches
