-- What one more statement adds to what is declared.
use Rattle.std.specs.Prelude.{ℕ, true, false, List, [], ◌++◌, length, map, Option, Some, None, option_map, unwrap_or}
use Rattle.std.specs.Option.{option_to_list}
use Rattle.cf_types.specs.declared.stmt.Stmt.{Stmt}
use Rattle.cf_types.specs.declared.stmt.Stmt.TheVariants as stmt
use Rattle.cf_types.specs.declared.tables.Attr.{Attr}
use Rattle.cf_types.specs.declared.tables.Locator.{Locator}
use Rattle.cf_types.specs.declared.tables.Device.{Device}
use Rattle.cf_types.specs.declared.tables.Attach.{Attach}
use Rattle.cf_types.specs.declared.tables.Place.{Place}
use Rattle.cf_types.specs.Lookups.{attr_number, device_number}
use Rattle.config_rules.specs.Declared.{Declared, attach_by, attr, attr_by, place_by}
use Rattle.config_rules.specs.Fault.{attr_numbers}

-- the attribute that a statement adds
abbrev pub new_attr : Declared → Stmt → Option Attr
new_attr d = attr_by (attr_number d.attrs)

-- the interface attribute of a device, if it has braces
abbrev pub own_attr : List ℕ → Option (List Locator) → Option Attr
own_attr name locs = option_map (λ l. attr name true false false l []) locs

-- a device of this name that names the attributes of these numbers; its own attribute is the next one
abbrev pub device_named : Declared → List ℕ → Option (List Locator) → List ℕ → Device
device_named d name locs numbers = record { name = name; own = option_map (λ l. length d.attrs) locs; needs = numbers }

-- the device that a statement adds; its own attribute is the one that the statement adds too
abbrev pub new_device : Declared → Stmt → Option Device
new_device d (stmt.Device name locs needs) = Some (device_named d name locs (attr_numbers d needs))
new_device d _ = None

-- the place of this name
abbrev pub place_named : Declared → List ℕ → Place
place_named d = place_by (attr_number d.attrs)

-- the attachment of a device under a name
abbrev pub attach_named : Declared → List ℕ → List (List ℕ) → List ℕ → List (List ℕ) → Attach
attach_named d device places name needs = record { name = name; device = unwrap_or (device_number d.devices device) 0; places = map (place_named d) places; needs = attr_numbers d needs }

-- the attachment that a statement adds
abbrev pub new_attach : Declared → Stmt → Option Attach
new_attach d = attach_by (attr_number d.attrs) (device_number d.devices)

-- what is declared with one more statement
abbrev pub declare : Declared → Stmt → Declared
declare d s = record {
  attrs = d.attrs ++ option_to_list (new_attr d s);
  devices = d.devices ++ option_to_list (new_device d s);
  attaches = d.attaches ++ option_to_list (new_attach d s);
}
