-- What statements without a code declare: numbers that name something, places that are open, names that differ.
use Rattle.std.specs.Prelude.{◌≡◌, ◌≢◌, ℕ, ◌<◌, ◌≤◌, true, List, [], ◌∷◌, length, ⊤, IfSome}
use Rattle.std.specs.List.{All, AllPairs}
use Rattle.cf_types.specs.declared.tables.Attr.{Attr}
use Rattle.cf_types.specs.declared.tables.Device.{Device}
use Rattle.cf_types.specs.declared.tables.Attach.{Attach}
use Rattle.cf_types.specs.declared.tables.Place.{Place}
use Rattle.cf_types.specs.declared.tables.Place.TheVariants.{Root, At}
use Rattle.cf_types.specs.Offers.{AreEarlier, nodes_of, interfaces_of, is_interface, named_by}
use Rattle.config_rules.specs.Declared.{Declared}

-- each is the number of an attribute
abbrev pub AreAttrs : List Attr → List ℕ → Type 0
AreAttrs attrs numbers = All (λ a. a < length attrs) numbers

-- the root, or an interface attribute
abbrev pub IsOpen : List Attr → Place → Type 0
IsOpen attrs Root = ⊤
IsOpen attrs (At a) = is_interface attrs a ≡ true

-- no two have the same name
abbrev pub NamesDiffer : {A : Type 0} → (A → List ℕ) → List A → Type 0
NamesDiffer name_of xs = AllPairs (λ x y. name_of x ≢ name_of y) xs

-- a device names attributes, its own attribute is an interface attribute, and its interface list is short
pub record SoundDevice (attrs : List Attr) (x : Device) : Type 0 where
  pub names_attrs : AreAttrs attrs x.needs
  pub own_is_open : IfSome x.own (λ a. is_interface attrs a ≡ true)
  pub offers_few : length (interfaces_of (nodes_of attrs) (named_by x)) ≤ 64

-- an attachment is that of a device, at places that are open, and names attributes
pub record SoundAttach (attrs : List Attr) (devices : List Device) (x : Attach) : Type 0 where
  pub has_device : x.device < length devices
  pub places_are_open : All (IsOpen attrs) x.places
  pub names_attrs : AreAttrs attrs x.needs

-- attributes name earlier ones alone and have short interface lists; devices and attachments are sound; names differ
pub record SoundDeclared (d : Declared) : Type 0 where
  pub needs_are_earlier : AreEarlier (nodes_of d.attrs)
  pub attrs_offer_few : (a : ℕ) → a < length d.attrs → length (interfaces_of (nodes_of d.attrs) (a ∷ [])) ≤ 64
  pub locators_differ : All (λ x. NamesDiffer (λ l. l.name) x.locs) d.attrs
  pub devices_are_sound : All (SoundDevice d.attrs) d.devices
  pub attaches_are_sound : All (SoundAttach d.attrs d.devices) d.attaches
  pub attr_names_differ : NamesDiffer (λ a. a.name) d.attrs
  pub device_names_differ : NamesDiffer (λ x. x.name) d.devices
  pub attach_names_differ : NamesDiffer (λ a. a.name) d.attaches
