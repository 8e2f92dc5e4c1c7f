-- What formed tables are, and what a machine is that fits them. The limits are this project's own.
use Rattle.std.specs.Prelude.{◌≡◌, ℕ, ◌<◌, ◌≤◌, Bool, true, false, List, [], ◌∷◌, length, map, filter_map, slice_get, Some, None, is_none, IfSome, if◌then◌else◌, All, Contains, not, ◌==◌, ◌&&◌}
use Rattle.std.specs.List.{list_all}
use Rattle.std.specs.Option.{option_map_or}
use Rattle.cf_types.specs.declared.machine.Machine.{Machine}
use Rattle.cf_types.specs.declared.machine.Spot.{Spot}
use Rattle.cf_types.specs.declared.machine.MatchLine.{MatchLine}
use Rattle.cf_types.specs.declared.machine.StyleLine.{StyleLine}
use Rattle.cf_types.specs.declared.tables.Attr.{Attr}
use Rattle.cf_types.specs.declared.tables.Place.{Place}
use Rattle.cf_types.specs.declared.tables.Place.TheVariants.{Root, At}
use Rattle.cf_types.specs.declared.tables.Row.{Row}
use Rattle.cf_types.specs.declared.tables.Tables.{Tables}
use Rattle.cf_types.specs.Locators.{locators_at}
use Rattle.cf_types.specs.Offers.{AreEarlier, interfaces, interfaces_of, is_interface, nodes_of}
use Rattle.cf_text.specs.Shapes.{ends_with_digit}
use Rattle.config_rules.specs.MachineText.{depth_of, differ, is_free_name}
use Rattle.config_rules.specs.Meaning.{first_unit}
use Rattle.config_rules.specs.Select.{is_root_place}

-- ---- tables

-- names of at most 63 bytes that are not `root`, all of them different
pub record AreNames (names : List (List ℕ)) : Type 0 where
  pub shaped : All (λ name. is_free_name name ≡ true) names
  pub different : differ names ≡ true

-- `root`, or an interface attribute
abbrev pub is_place : List Attr → Place → Bool
is_place attrs Root = true
is_place attrs (At a) = is_interface attrs a

-- so few attributes, attachments and locators that their numbers can be kept
pub record CountedTables (t : Tables) : Type 0 where
  pub attrs : length t.attrs ≤ 65536
  pub attaches : length t.attaches ≤ 65536
  pub locators : All (λ a. length a.locs ≤ 16) t.attrs

-- tables whose attributes and devices fit into a graph: they are so few, name attributes that are there, attributes
-- name earlier ones alone, and each offers few
pub record FitGraph (t : Tables) : Type 0 where
  pub few_attrs : length t.attrs ≤ 65536
  pub few_devices : length t.devices ≤ 65536
  pub earlier_needs : AreEarlier (nodes_of t.attrs)
  pub own : All (λ d. IfSome d.own (λ a. a < length t.attrs)) t.devices
  pub device_needs : All (λ d. All (λ a. a < length t.attrs) d.needs) t.devices
  pub few_offered : (a : ℕ) → length (interfaces_of (nodes_of t.attrs) (a ∷ [])) ≤ 64
  pub few_offered_by_device : (d : ℕ) → length (interfaces t.attrs t.devices d) ≤ 64

-- the units of the rows of a device without star
abbrev pub fixed_units : List Row → ℕ → List ℕ
fixed_units rows d = filter_map (λ r. if not r.star && r.device == d then Some r.unit else None) rows

-- a row of the tables
pub record FormedRow (t : Tables) (r : Row) : Type 0 where
  pub device : r.device < length t.devices
  pub attach_of_device : option_map_or (λ x. x.device == r.device) (slice_get t.attaches r.attach) false ≡ true
  pub listed_place : IfSome (slice_get t.attaches r.attach) (λ x. Contains x.places r.place)
  pub one_value_a_locator : length r.locs ≡ length (locators_at t.attrs r.place)
  pub parent : IfSome r.parent (λ p. p.device < length t.devices)
  pub no_parent_at_root : is_root_place r.place ≡ true → r.parent ≡ None
  pub fixed_unit : r.star ≡ false → r.unit ≤ 65535
  pub starred_unit : r.star ≡ true → r.unit ≡ first_unit (fixed_units t.rows r.device)

-- the tables of a configuration: their numbers, names and lengths
pub record FormedTables (t : Tables) : Type 0 where
  pub counted : CountedTables t
  pub graph : FitGraph t
  pub few_rows : length t.rows ≤ 8192
  pub attr_names : AreNames (map (λ a. a.name) t.attrs)
  pub device_names : AreNames (map (λ d. d.name) t.devices)
  pub attach_names : AreNames (map (λ a. a.name) t.attaches)
  pub digits_for_units : All (λ d. ends_with_digit d.name ≡ false) t.devices
  pub different_locators : All (λ a. differ (map (λ l. l.name) a.locs) ≡ true) t.attrs
  pub attach_devices : All (λ x. x.device < length t.devices) t.attaches
  pub attach_places : All (λ x. list_all (is_place t.attrs) x.places ≡ true) t.attaches
  pub attach_needs : All (λ x. All (λ a. a < length t.attrs) x.needs) t.attaches
  pub rows : All (FormedRow t) t.rows

-- ---- machines

-- a spot in its place
pub record FittingSpot (t : Tables) (spots : List Spot) (s : Spot) : Type 0 where
  pub above : IfSome s.parent (λ p. p < length spots)
  pub rooted : is_none s.parent ≡ is_root_place s.place
  pub place : is_place t.attrs s.place ≡ true
  pub one_value_a_locator : length s.found ≡ length (locators_at t.attrs s.place)
  pub depth : depth_of (length spots) spots s.parent ≤ 64

-- a match line
pub record FittingMatch (t : Tables) (spots : List Spot) (l : MatchLine) : Type 0 where
  pub attach : l.attach < length t.attaches
  pub spot : IfSome l.spot (λ s. s < length spots)
  pub value : l.value ≤ 65535

-- a style line
pub record FittingStyle (t : Tables) (l : StyleLine) : Type 0 where
  pub attach : l.attach < length t.attaches
  pub attr : is_interface t.attrs l.attr ≡ true

-- a machine of these tables: its parents are earlier spots
pub record FittingMachine (t : Tables) (m : Machine) : Type 0 where
  pub few_spots : length m.spots ≤ 1024
  pub spot_names : AreNames (map (λ s. s.name) m.spots)
  pub earlier_parents : (i : ℕ) → IfSome (slice_get m.spots i) (λ s. IfSome s.parent (λ p. p < i))
  pub spots : All (FittingSpot t m.spots) m.spots
  pub matches : All (FittingMatch t m.spots) m.matches
  pub styles : All (FittingStyle t) m.styles
  pub one_policy_an_attachment : length m.policies ≡ length t.attaches
