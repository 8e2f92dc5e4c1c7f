-- The lines of the listing of tables, a format of this project.
use Rattle.std.specs.Prelude.{ℕ, if◌then◌else◌, Option, Some, None, List, [], ◌∷◌, ◌++◌, nat_lt, map, flat_map, ℤ, length, slice_get, codes, decimal}
use Rattle.std.specs.List.{enumerate_from}
use Rattle.std.specs.Option.{option_map_or}
use Rattle.std.specs.Fmt.{signed_decimal}
use Rattle.cf_types.specs.declared.stmt.Item.{Item}
use Rattle.cf_types.specs.declared.tables.Attr.{Attr}
use Rattle.cf_types.specs.declared.tables.Attach.{Attach}
use Rattle.cf_types.specs.declared.tables.Device.{Device}
use Rattle.cf_types.specs.declared.tables.Locator.{Locator}
use Rattle.cf_types.specs.declared.tables.ParentSpec.{ParentSpec}
use Rattle.cf_types.specs.declared.tables.Place.{Place}
use Rattle.cf_types.specs.declared.tables.Place.TheVariants.{Root, At}
use Rattle.cf_types.specs.declared.tables.Pseudo.{Pseudo}
use Rattle.cf_types.specs.declared.tables.Row.{Row}
use Rattle.cf_types.specs.declared.tables.WarnKind.{WarnKind}
use Rattle.cf_types.specs.declared.tables.WarnKind.TheVariants as warns
use Rattle.cf_types.specs.declared.tables.Warning.{Warning}
use Rattle.cf_types.specs.declared.tables.Tables.{Tables}
use Rattle.cf_types.specs.Lines.{text_of}
use Rattle.cf_types.specs.Offers.{interfaces}
use Rattle.cf_types.specs.Locators.{locators_at}

-- the name of the attribute with this number
abbrev pub attr_name : Tables → ℕ → List ℕ
attr_name t a = option_map_or (λ x. x.name) (slice_get t.attrs a) []

-- the name of the device with this number
abbrev pub device_name : Tables → ℕ → List ℕ
device_name t d = option_map_or (λ x. x.name) (slice_get t.devices d) []

-- the name of the attachment with this number
abbrev pub attach_name : Tables → ℕ → List ℕ
attach_name t a = option_map_or (λ x. x.name) (slice_get t.attaches a) []

-- the name of a place
abbrev pub place_name : Tables → Place → List ℕ
place_name t Root = codes "root"
place_name t (At a) = attr_name t a

-- each behind a space
abbrev pub spaced : List (List ℕ) → List ℕ
spaced words = flat_map (λ w. 32 ∷ w) words

-- `loc=V` or `[loc=V]`
abbrev pub default_text : Locator → ℤ → List ℕ
default_text l v =
    if l.optional then codes "[" ++ l.name ++ codes "=" ++ signed_decimal v ++ codes "]" else l.name ++ codes "=" ++ signed_decimal v

-- `loc`, where there is no default
abbrev pub locator_text : Locator → List ℕ
locator_text l = option_map_or (default_text l) l.default l.name

-- an interface attribute with its locators, or another attribute
abbrev pub attr_line : Attr → List ℕ
attr_line a = if a.iface then codes "iattr " ++ a.name ++ spaced (map locator_text a.locs) else codes "attr " ++ a.name

-- the attributes of an interface list
abbrev pub offers_text : Tables → List ℕ → List ℕ
offers_text t offered = if nat_lt 0 (length offered) then codes " offers" ++ spaced (map (attr_name t) offered) else []

-- a device with what it offers
abbrev pub device_text : Tables → Device → List ℕ → List ℕ
device_text t d offered = codes "device " ++ d.name ++ offers_text t offered

-- a device, by its number
abbrev pub device_line : Tables → ℕ × Device → List ℕ
device_line t e = device_text t e.1 (interfaces t.attrs t.devices e.0)

-- an attachment, with its device and its places
abbrev pub attach_line : Tables → Attach → List ℕ
attach_line t a = codes "attach " ++ a.name ++ codes " of " ++ device_name t a.device ++ codes " at" ++ spaced (map (place_name t) a.places)

-- a unit, `?` for any
abbrev pub unit_text : Option ℕ → List ℕ
unit_text None = codes "?"
unit_text (Some unit) = decimal unit

-- the parent with its unit or `?`, or the attribute with `?`
abbrev pub parent_text : Tables → ℕ → Option ParentSpec → List ℕ
parent_text t a None = attr_name t a ++ codes "?"
parent_text t a (Some p) = device_name t p.device ++ unit_text p.unit

-- what a row attaches to
abbrev pub at_text : Tables → Place → Option ParentSpec → List ℕ
at_text t Root parent = codes "root"
at_text t (At a) parent = parent_text t a parent

-- a device with its unit, or starred with its first unit
abbrev pub row_name : Tables → Row → List ℕ
row_name t r = device_name t r.device ++ (if r.star then codes "* from " ++ decimal r.unit else decimal r.unit)

-- the name of the locator at a place
abbrev pub locator_name : List Locator → ℕ → List ℕ
locator_name locs n = option_map_or (λ l. l.name) (slice_get locs n) []

-- a locator, by its place, with its value
abbrev pub value_text : List Locator → ℕ × ℤ → List ℕ
value_text locs e = locator_name locs e.0 ++ codes "=" ++ signed_decimal e.1

-- each locator with its value
abbrev pub values_text : Tables → Row → List (List ℕ)
values_text t r = map (value_text (locators_at t.attrs r.place)) (enumerate_from 0 r.locs)

-- what a row is, and what it attaches to
abbrev pub row_head : Tables → ℕ × Row → List ℕ
row_head t e = codes "row " ++ decimal e.0 ++ codes " " ++ row_name t e.1 ++ codes " at " ++ at_text t e.1.place e.1.parent

-- by which attachment, on what, with which values
abbrev pub row_tail : Tables → Row → List ℕ
row_tail t r =
    codes " by " ++ attach_name t r.attach ++ codes " on " ++ place_name t r.place ++ spaced (values_text t r)
    ++ codes " flags " ++ signed_decimal r.flags

-- a row, by its number
abbrev pub row_line : Tables → ℕ × Row → List ℕ
row_line t e = row_head t e ++ row_tail t e.1

-- a pseudo-device and how many there are
abbrev pub pseudo_line : Pseudo → List ℕ
pseudo_line p = codes "pseudo " ++ p.name ++ codes " " ++ decimal p.count

-- `=VALUE` or `+=VALUE`, or nothing
abbrev pub item_value : Item → List ℕ
item_value i = option_map_or (λ v. (if i.plus then codes "+=" else codes "=") ++ v) i.value []

-- an option or makeoption behind its word
abbrev pub item_line : List ℕ → Item → List ℕ
item_line word i = word ++ codes " " ++ i.name ++ item_value i

-- a file system
abbrev pub file_system_line : List ℕ → List ℕ
file_system_line name = codes "file-system " ++ name

-- what a warning says
abbrev pub kind_text : WarnKind → List ℕ
kind_text warns.Nothing = codes "nothing taken back"
kind_text warns.Orphan = codes "orphan"

-- a warning with its file and line
abbrev pub warning_line : Warning → List ℕ
warning_line w = codes "warning " ++ w.file ++ codes ":" ++ decimal w.line ++ codes " " ++ kind_text w.kind

-- the lines of devices and attachments
abbrev pub driver_lines : Tables → List (List ℕ)
driver_lines t = map (device_line t) (enumerate_from 0 t.devices) ++ map (attach_line t) t.attaches

-- the lines of attributes, devices and attachments
abbrev pub definition_lines : Tables → List (List ℕ)
definition_lines t = map attr_line t.attrs ++ driver_lines t

-- the lines of rows and pseudo-devices
abbrev pub instance_lines : Tables → List (List ℕ)
instance_lines t = map (row_line t) (enumerate_from 0 t.rows) ++ map pseudo_line t.pseudos

-- the lines of options and makeoptions
abbrev pub option_lines : Tables → List (List ℕ)
option_lines t = map (item_line (codes "options")) t.options ++ map (item_line (codes "makeoptions")) t.makeoptions

-- the lines of file systems and warnings
abbrev pub rest_lines : Tables → List (List ℕ)
rest_lines t = map file_system_line t.file_systems ++ map warning_line t.warnings

-- the lines of all items and of warnings
abbrev pub end_lines : Tables → List (List ℕ)
end_lines t = option_lines t ++ rest_lines t

-- the lines behind those of definitions
abbrev pub tail_lines : Tables → List (List ℕ)
tail_lines t = instance_lines t ++ end_lines t

-- the lines behind the first
abbrev pub entry_lines : Tables → List (List ℕ)
entry_lines t = definition_lines t ++ tail_lines t

-- the lines of the listing
abbrev pub lines : Tables → List (List ℕ)
lines t = codes "tables" ∷ entry_lines t

-- the listing: each line with its newline
abbrev pub listing : Tables → List ℕ
listing t = text_of (lines t)
