-- The attachment, the place, the parent and the locator values of an instance, or the first code that it has. Which
-- attachment is taken, and what brackets and defaults of locators mean, is this project's profile after config(5).
use Rattle.std.specs.Prelude.{ℕ, Bool, true, false, not, ◌&&◌, ◌==◌, if◌then◌else◌, List, [], ◌∷◌, ◌++◌, map, flat_map, find, Option, Some, None, is_some, is_none, option_and_then, unwrap_or, ok_or, Result, Ok, Err, ℤ, pos}
use Rattle.std.specs.List.{list_any, enumerate_from}
use Rattle.std.specs.Option.{option_map_or}
use Rattle.cf_types.specs.declared.code.configuration.TheConstants.{UNKNOWN_ATTRIBUTE, NO_INTERFACE, UNKNOWN_DEVICE, NO_ATTACHMENT, NO_FITTING_ATTACHMENT, MISSING_LOCATOR, UNKNOWN_LOCATOR, LOCATOR_TWICE, NO_DEFAULT, UNIT_ON_ATTRIBUTE}
use Rattle.cf_types.specs.declared.stmt.AtSpec.{AtSpec}
use Rattle.cf_types.specs.declared.stmt.AtSpec.TheVariants as written
use Rattle.cf_types.specs.declared.instance.AttachPlace.{AttachPlace}
use Rattle.cf_types.specs.declared.instance.Joined.{Joined}
use Rattle.cf_types.specs.declared.instance.Target.{Target}
use Rattle.cf_types.specs.declared.instance.Target.TheVariants.{AtRoot, Below, On}
use Rattle.cf_types.specs.declared.stmt.GivenLoc.{GivenLoc}
use Rattle.cf_types.specs.declared.tables.Locator.{Locator}
use Rattle.cf_types.specs.declared.tables.ParentSpec.{ParentSpec}
use Rattle.cf_types.specs.declared.tables.Place.{Place}
use Rattle.cf_types.specs.declared.tables.Place.TheVariants.{Root, At}
use Rattle.config_rules.specs.Cut.{◌>>=◌}
use Rattle.config_rules.specs.Form.{given, ◌or◌}
use Rattle.config_rules.specs.Declared.{Declared}
use Rattle.cf_types.specs.Offers.{is_interface, offers}
use Rattle.cf_types.specs.Locators.{locators_at}
use Rattle.cf_types.specs.Lookups.{attr_number, device_number, given_named, locator_named}

-- ---- locators

-- no such locator; written before; `?` without a default
abbrev pub pair_fault : List Locator → List GivenLoc → GivenLoc → Option ℕ
pair_fault locs before g =
    given (is_none (locator_named locs g.name)) UNKNOWN_LOCATOR
    or (given (is_some (given_named before g.name)) LOCATOR_TWICE
    or given (is_none g.value && is_none (option_and_then (λ l. l.default) (locator_named locs g.name))) NO_DEFAULT)

-- the first code of these pairs, behind those before
abbrev pub pairs_fault : List Locator → List GivenLoc → List GivenLoc → Option ℕ
pairs_fault locs before [] = None
pairs_fault locs before (g ∷ pairs) = pair_fault locs before g or pairs_fault locs (before ++ g ∷ []) pairs

-- a locator without brackets that isn't written
abbrev pub is_wanting : List GivenLoc → Locator → Bool
is_wanting pairs l = not l.optional && is_none (given_named pairs l.name)

-- the pairs first, then the locators that are not written
unfoldable pub fill_fault : List Locator → List GivenLoc → Option ℕ
fill_fault locs pairs = pairs_fault locs [] pairs or given (list_any (is_wanting pairs) locs) MISSING_LOCATOR

-- the value written, or the default
abbrev pub filled : List GivenLoc → Locator → ℤ
filled pairs l = unwrap_or (option_and_then (λ g. g.value) (given_named pairs l.name) or l.default) (pos 0)

-- the values of the locators of a place, in order, or the first code
unfoldable pub fill : List Locator → List GivenLoc → Result (List ℤ) ℕ
fill locs pairs = option_map_or (λ code. Err code) (fill_fault locs pairs) (Ok (map (filled pairs) locs))

-- ---- the attachment

-- the attachments of a device with their places, in the order of attachments, then of places
abbrev pub spots_of : Declared → ℕ → List AttachPlace
spots_of d device =
    flat_map (λ a. if a.1.device == device then map (λ place. record { attach = a.0; place = place }) a.1.places else [])
    (enumerate_from 0 d.attaches)

-- a place is what an instance joins: the root, an attribute that the parent offers, or the attribute itself
abbrev pub suits : Declared → Target → Place → Bool
suits d AtRoot Root = true
suits d AtRoot (At a) = false
suits d (Below parent) Root = false
suits d (Below parent) (At a) = offers d.attrs d.devices parent.device a
suits d (On b) Root = false
suits d (On b) (At a) = a == b

-- an attribute: unknown, no interface attribute, or written with a unit
abbrev pub attr_target : Declared → Option ℕ → Option ℕ → Result Target ℕ
attr_target d unit None = Err UNKNOWN_ATTRIBUTE
attr_target d unit (Some a) =
    if not (is_interface d.attrs a) then Err NO_INTERFACE else (if is_some unit then Err UNIT_ON_ATTRIBUTE else Ok (On a))

-- a name that is a device and an attribute is read as the device
abbrev pub target_of : Declared → AtSpec → Result Target ℕ
target_of d written.Root = Ok AtRoot
target_of d (written.Named base unit) =
    option_map_or (λ device. Ok (Below (record { device = device; unit = unit }))) (device_number d.devices base)
    (attr_target d unit (attr_number d.attrs base))

-- the parent device that is named, if one is
abbrev pub parent_of : Target → Option ParentSpec
parent_of AtRoot = None
parent_of (Below parent) = Some parent
parent_of (On a) = None

-- the device of an instance
abbrev pub device_or : Declared → List ℕ → Result ℕ ℕ
device_or d name = ok_or (device_number d.devices name) UNKNOWN_DEVICE

-- a device without any attachment
abbrev pub attached : Declared → ℕ → Result ℕ ℕ
attached d device = if list_any (λ a. a.device == device) d.attaches then Ok device else Err NO_ATTACHMENT

-- what an instance joins, or its first code
unfoldable pub join : Declared → List ℕ → AtSpec → List GivenLoc → Result Joined ℕ
join d base at pairs =
    device_or d base >>= λ device.
    attached d device >>= λ one.
    target_of d at >>= λ target.
    ok_or (find (λ s. suits d target s.place) (spots_of d device)) NO_FITTING_ATTACHMENT >>= λ s.
    fill (locators_at d.attrs s.place) pairs >>= λ locs.
    Ok (record { device = device; attach = s.attach; place = s.place; parent = parent_of target; locs = locs })
