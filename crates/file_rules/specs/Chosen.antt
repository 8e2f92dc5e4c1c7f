-- The names that a configuration chooses, after files.conf of config(5): those of its devices and attachments, of the
-- attributes that these need, and of its options and file systems.
use Rattle.std.specs.Prelude.{◌≡◌, ℕ, Bool, List, [], ◌++◌, length, map, filter, flat_map, slice_get}
use Rattle.std.specs.List.Sorted.{IsStrictlySortedBy}
use Rattle.std.specs.Cmp.Lexicographic.{slice_cmp}
use Rattle.std.specs.Option.{option_map_or, option_to_list}
use Rattle.std.specs.Ordering.{nat_cmp}
use Rattle.std.specs.Str.{str_to_ascii_lowercase}
use Rattle.cf_types.specs.Numbers.{below}
use Rattle.cf_types.specs.Offers.{named_by, nodes_of, walks}
use Rattle.cf_types.specs.declared.tables.Attach.{Attach}
use Rattle.cf_types.specs.declared.tables.Attr.{Attr}
use Rattle.cf_types.specs.declared.tables.Device.{Device}
use Rattle.cf_types.specs.declared.tables.Row.{Row}
use Rattle.cf_types.specs.declared.tables.Tables.{Tables}
use Rattle.config_rules.specs.Select.{has_name}

-- ---- devices and attachments

-- the device of a row
abbrev pub device_in : List Device → Row → List Device
device_in devices r = option_to_list (slice_get devices r.device)

-- its attachment
abbrev pub attach_in : List Attach → Row → List Attach
attach_in attaches r = option_to_list (slice_get attaches r.attach)

-- their names
abbrev pub row_names : Tables → Row → List (List ℕ)
row_names t r = map (λ d. d.name) (device_in t.devices r) ++ map (λ a. a.name) (attach_in t.attaches r)

-- ---- attributes

-- the device's own attribute, and what the device and the attachment need
abbrev pub row_attrs : Tables → Row → List ℕ
row_attrs t r = flat_map named_by (device_in t.devices r) ++ flat_map (λ a. a.needs) (attach_in t.attaches r)

-- the name of an attribute
abbrev pub attr_name : List Attr → ℕ → List ℕ
attr_name attrs a = option_map_or (λ x. x.name) (slice_get attrs a) []

-- the attributes that have one of these names
abbrev pub named_attrs : List Attr → List (List ℕ) → List ℕ
named_attrs attrs names = filter (λ a. has_name names (attr_name attrs a)) (below (length attrs))

-- the attributes of the rows, and those of the pseudo-devices, which have their names
abbrev pub wanted_attrs : Tables → List ℕ
wanted_attrs t = flat_map (row_attrs t) t.rows ++ named_attrs t.attrs (map (λ p. p.name) t.pseudos)

-- with all that they need, and that these need, and so on
abbrev pub reached_attrs : Tables → List ℕ
reached_attrs t = walks (nodes_of t.attrs) (wanted_attrs t)

-- ---- options and file systems

-- their names in lower case
abbrev pub item_names : Tables → List (List ℕ)
item_names t = map str_to_ascii_lowercase (map (λ i. i.name) t.options ++ t.file_systems)

-- ---- all of them

-- the names that tables choose; some may stand there several times
unfoldable pub chosen_names : Tables → List (List ℕ)
chosen_names t = flat_map (row_names t) t.rows ++ map (attr_name t.attrs) (reached_attrs t) ++ item_names t

-- the tables choose a name
abbrev pub is_chosen : Tables → List ℕ → Bool
is_chosen t name = has_name (chosen_names t) name

-- each of these names once, in the order of their bytes
pub record AreChosen (t : Tables) (names : List (List ℕ)) : Type 0 where
  pub same : (name : List ℕ) → has_name names name ≡ is_chosen t name
  pub ordered : IsStrictlySortedBy (slice_cmp nat_cmp) names
