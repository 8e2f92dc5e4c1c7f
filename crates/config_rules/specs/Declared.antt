-- What statements declare: attributes, devices and attachments, each in order, after config(5).
use Rattle.std.specs.Prelude.{ℕ, Bool, true, false, if◌then◌else◌, List, [], map, filter_map, bytes_eq, codes, Option, Some, None, is_some, option_map, option_and_then, unwrap_or}
use Rattle.cf_types.specs.declared.declared.Declared as lists
use Rattle.cf_types.specs.declared.stmt.Stmt.{Stmt}
use Rattle.cf_types.specs.declared.stmt.Stmt.TheVariants as stmt
use Rattle.cf_types.specs.declared.tables.Locator.{Locator}
use Rattle.cf_types.specs.declared.tables.Attr.{Attr}
use Rattle.cf_types.specs.declared.tables.Device.{Device}
use Rattle.cf_types.specs.declared.tables.Attach.{Attach}
use Rattle.cf_types.specs.declared.tables.Place.{Place}
use Rattle.cf_types.specs.declared.tables.Place.TheVariants.{Root, At}
use Rattle.cf_types.specs.Lookups.{place_of_name}

-- the attributes, devices and attachments, each in order; a pseudo-device is an attribute that is marked so
abbrev pub Declared : Type 0
Declared = lists.Declared

-- ---- names and their numbers

-- `root` names no attribute, device or attachment
abbrev pub is_root : List ℕ → Bool
is_root name = bytes_eq name (codes "root")

-- the numbers of these names, each told by a look-up
abbrev pub numbers_by : (List ℕ → Option ℕ) → List (List ℕ) → List ℕ
numbers_by number_of wanted = map (λ name. unwrap_or (number_of name) 0) wanted

-- the numbers of these names in a list of names
abbrev pub numbers_in : List (List ℕ) → List (List ℕ) → List ℕ
numbers_in names = numbers_by (place_of_name names)

-- the attribute that a statement declares; a device with braces declares one of its own name
abbrev pub attr_name : Stmt → Option (List ℕ)
attr_name (stmt.Define name locs needs) = Some name
attr_name (stmt.Class name) = Some name
attr_name (stmt.DefPseudo name locs needs) = Some name
attr_name (stmt.Device name locs needs) = option_map (λ l. name) locs
attr_name _ = None

-- the device that a statement declares
abbrev pub device_name : Stmt → Option (List ℕ)
device_name (stmt.Device name locs needs) = Some name
device_name _ = None

-- ---- what a statement declares, where look-ups tell the numbers of the attributes and devices that it names

-- an attribute of this name
abbrev pub attr : List ℕ → Bool → Bool → Bool → List Locator → List ℕ → Attr
attr name iface class pseudo locs needs = record { name = name; iface = iface; class = class; pseudo = pseudo; locs = locs; needs = needs }

-- a device with braces declares an interface attribute that needs no other
abbrev pub attr_by : (List ℕ → Option ℕ) → Stmt → Option Attr
attr_by attr_number (stmt.Define name locs needs) = Some (attr name (is_some locs) false false (unwrap_or locs []) (numbers_by attr_number needs))
attr_by attr_number (stmt.Class name) = Some (attr name false true false [] [])
attr_by attr_number (stmt.DefPseudo name locs needs) = Some (attr name (is_some locs) false true (unwrap_or locs []) (numbers_by attr_number needs))
attr_by attr_number (stmt.Device name locs needs) = option_map (λ l. attr name true false false l []) locs
attr_by attr_number _ = None

-- the root, or the interface attribute of this name
abbrev pub place_by : (List ℕ → Option ℕ) → List ℕ → Place
place_by attr_number name = if is_root name then Root else At (unwrap_or (attr_number name) 0)

-- an attachment has the name behind `with`, or else that of its device
abbrev pub attach_by : (List ℕ → Option ℕ) → (List ℕ → Option ℕ) → Stmt → Option Attach
attach_by attr_number device_number (stmt.Attach device places name needs) =
    Some (record { name = unwrap_or name device; device = unwrap_or (device_number device) 0; places = map (place_by attr_number) places; needs = numbers_by attr_number needs })
attach_by attr_number device_number _ = None

-- ---- what statements declare, where these are the names of all attributes and devices

-- the attribute of a statement
abbrev pub attr_of : List (List ℕ) → Stmt → Option Attr
attr_of attrs = attr_by (place_of_name attrs)

-- a device, with the number of the attribute of its own, if it has braces
abbrev pub device_of : List (List ℕ) → Stmt → Option Device
device_of attrs (stmt.Device name locs needs) =
    Some (record { name = name; own = option_and_then (λ l. place_of_name attrs name) locs; needs = numbers_in attrs needs })
device_of attrs _ = None

-- the place of this name
abbrev pub place_of : List (List ℕ) → List ℕ → Place
place_of attrs = place_by (place_of_name attrs)

-- the attachment of a statement
abbrev pub attach_of : List (List ℕ) → List (List ℕ) → Stmt → Option Attach
attach_of attrs devices = attach_by (place_of_name attrs) (place_of_name devices)

-- each list, in the order of the statements
abbrev pub declared_with : List (List ℕ) → List (List ℕ) → List Stmt → Declared
declared_with attrs devices stmts = record {
  attrs = filter_map (attr_of attrs) stmts;
  devices = filter_map (device_of attrs) stmts;
  attaches = filter_map (attach_of attrs devices) stmts;
}

-- the attributes, devices and attachments that the statements declare
unfoldable pub declared : List Stmt → Declared
declared stmts = declared_with (filter_map attr_name stmts) (filter_map device_name stmts) stmts
