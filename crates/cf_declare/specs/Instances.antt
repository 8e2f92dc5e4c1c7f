-- What an instance joins names what is declared.
use Rattle.std.specs.Prelude.{◌≡◌, ℕ, ◌<◌, List, length, slice_get, Some, IfSome}
use Rattle.std.specs.List.{All, Contains}
use Rattle.cf_types.specs.declared.tables.Attach.{Attach}
use Rattle.cf_types.specs.declared.tables.Place.{Place}
use Rattle.cf_types.specs.declared.instance.Instance.{Instance}
use Rattle.cf_types.specs.declared.instance.Joined.{Joined}
use Rattle.cf_types.specs.Locators.{locators_at}
use Rattle.config_rules.specs.Declared.{Declared}
use Rattle.cf_declare.specs.Sound.{IsOpen}

-- the attachment of this number is one of the device, at this place among others
pub record IsSpotOf (attaches : List Attach) (device : ℕ) (number : ℕ) (place : Place) : Type 0 where
  pub attach : Attach
  pub has_number : slice_get attaches number ≡ Some attach
  pub is_of_device : attach.device ≡ device
  pub has_place : Contains attach.places place

-- a device, an attachment of it at one of its places, which is open, a device as parent, and a value for each locator
pub record SoundJoined (d : Declared) (j : Joined) : Type 0 where
  pub has_device : j.device < length d.devices
  pub has_attach : IsSpotOf d.attaches j.device j.attach j.place
  pub place_is_open : IsOpen d.attrs j.place
  pub has_parent : IfSome j.parent (λ p. p.device < length d.devices)
  pub has_values : length j.locs ≡ length (locators_at d.attrs j.place)

-- so does each of these instances
abbrev pub SoundInstances : Declared → List Instance → Type 0
SoundInstances d insts = All (λ x. SoundJoined d x.joined) insts
