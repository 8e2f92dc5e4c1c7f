-- What contracts see of a graph of attributes and devices, and what it keeps.
use Rattle.std.specs.Prelude.{◌≡◌, ◌⊎◌, ℕ, Option, Some, None, ◌<◌, ◌≤◌, Bool, false, List, [], ◌∷◌, ◌++◌, length, flat_map, map, slice_get, Result, Ok, Err}
use Rattle.std.specs.List.{slice_index_or, All}
use Rattle.std.specs.Option.{option_map_or}
use Rattle.cf_types.specs.Gather.{is_in, with_all}
use Rattle.cf_types.specs.Offers.{Node, AreEarlier, interfaces_of}
use Rattle.smallvec.specs.SmallVec.{SmallVec}
use Rattle.attr_graph.specs.declared.gather.GraphStop.{GraphStop}
use Rattle.attr_graph.specs.declared.gather.GraphStop.TheVariants.{TooMany, Memory}
use Rattle.attr_graph.specs.declared.gather.TheConstants.{MAX_INTERFACES}
use Rattle.attr_graph.specs.declared.entry.AttrEntry.{AttrEntry}
use Rattle.attr_graph.specs.declared.entry.DeviceEntry.{DeviceEntry}

-- the attributes, and of each device the attributes that it names, its own first
pub record Shape : Type 0 where
  pub attrs : List Node
  pub devices : List (List ℕ)

-- the marks are those of the numbers in the list, and each of these can be marked
pub record AreMarks (xs : List ℕ) (marks : List Bool) : Type 0 where
  pub within : All (λ x. x < length marks) xs
  pub marked : (k : ℕ) → k < length marks → slice_index_or marks k false ≡ is_in k xs

-- an attribute without its interface list
abbrev pub node_of : AttrEntry → Node
node_of e = record { iface = e.iface; needs = e.needs }

abbrev pub nodes_of : List AttrEntry → List Node
nodes_of attrs = map node_of attrs

abbrev pub names_of : List DeviceEntry → List (List ℕ)
names_of devices = map (λ e. e.names) devices

abbrev pub names_at : List DeviceEntry → ℕ → List ℕ
names_at devices d = option_map_or (λ e. e.names) (slice_get devices d) []

abbrev pub device_reach : List DeviceEntry → ℕ → List ℕ
device_reach devices d = option_map_or (λ e. e.reach) (slice_get devices d) []

-- the interface list of an attribute
abbrev pub reach_at : List AttrEntry → ℕ → List ℕ
reach_at attrs a = option_map_or (λ e. e.reach) (slice_get attrs a) []

-- each number of a list stands there once
abbrev pub StandOnce : List ℕ → Type 0
StandOnce xs = with_all [] xs ≡ xs

-- what these attributes offer is what those at the front do, followed by what the last one does
pub record IsSplit (attrs : List AttrEntry) (names front last : List ℕ) : Type 0 where
  pub whole : flat_map (reach_at attrs) names ≡ flat_map (reach_at attrs) front ++ last
  pub known : All (λ a. a < length attrs) front
  pub of_last : (last ≡ []) ⊎ ((a : ℕ) × (last ≡ reach_at attrs a))

-- each attribute's list is its interface list, and no number is marked
pub record KeptAttrs (attrs : List AttrEntry) (marks : List Bool) : Type 0 where
  pub earlier : AreEarlier (nodes_of attrs)
  pub lists : (a : ℕ) → a < length attrs → reach_at attrs a ≡ interfaces_of (nodes_of attrs) (a ∷ [])
  pub within : (a : ℕ) → All (λ x. x < length marks) (reach_at attrs a)
  pub marked : AreMarks [] marks
  pub room : length attrs ≤ length marks

-- each device names attributes that are there, and its list is its interface list
pub record KeptDevices (attrs : List AttrEntry) (devices : List DeviceEntry) : Type 0 where
  pub known : (d : ℕ) → All (λ a. a < length attrs) (names_at devices d)
  pub lists : (d : ℕ) → d < length devices → device_reach devices d ≡ interfaces_of (nodes_of attrs) (names_at devices d)

-- the list, or that it has too many entries
abbrev pub Gathers : List ℕ → Result (SmallVec ℕ) GraphStop → Type 0
Gathers list (Ok v) = (v.items ≡ list) × (length list ≤ MAX_INTERFACES)
Gathers list (Err TooMany) = MAX_INTERFACES < length list
Gathers list (Err Memory) = Unit {0}

-- the list of a new attribute
abbrev pub new_list : List AttrEntry → Node → List ℕ
new_list attrs node = interfaces_of (nodes_of attrs ++ node ∷ []) (length attrs ∷ [])

-- the entry of a new attribute, or why there is none
abbrev pub MakesAttr : List AttrEntry → Node → List Bool → Result AttrEntry GraphStop → Type 0
MakesAttr attrs node marks (Ok e) =
    (node_of e ≡ node) × (e.reach ≡ new_list attrs node) × (length e.reach ≤ MAX_INTERFACES) × All (λ x. x < length marks) e.reach
    × (length attrs < length marks)
MakesAttr attrs node marks (Err TooMany) = MAX_INTERFACES < length (new_list attrs node)
MakesAttr attrs node marks (Err Memory) = Unit {0}

-- the entry of a new device, or why there is none
abbrev pub MakesDevice : List AttrEntry → List ℕ → Result DeviceEntry GraphStop → Type 0
MakesDevice attrs names (Ok e) =
    (e.names ≡ names) × (e.reach ≡ interfaces_of (nodes_of attrs) names) × (length e.reach ≤ MAX_INTERFACES)
MakesDevice attrs names (Err TooMany) = MAX_INTERFACES < length (interfaces_of (nodes_of attrs) names)
MakesDevice attrs names (Err Memory) = Unit {0}

-- what contracts see of attributes and devices
abbrev pub shape_of : List AttrEntry → List DeviceEntry → Shape
shape_of attrs devices = record { attrs = nodes_of attrs; devices = names_of devices }

-- an attribute was added, or would offer too many, or memory ran out
abbrev pub AddsAttr : Shape → Shape → Node → Result ℕ GraphStop → Type 0
AddsAttr old new node (Ok n) =
    (n ≡ length old.attrs) × (new ≡ record old { attrs = old.attrs ++ node ∷ [] })
    × (length (interfaces_of (old.attrs ++ node ∷ []) (length old.attrs ∷ [])) ≤ MAX_INTERFACES)
AddsAttr old new node (Err TooMany) =
    (new ≡ old) × (MAX_INTERFACES < length (interfaces_of (old.attrs ++ node ∷ []) (length old.attrs ∷ [])))
AddsAttr old new node (Err Memory) = new ≡ old

-- a device was added, or would offer too many, or memory ran out
abbrev pub AddsDevice : Shape → Shape → List ℕ → Result ℕ GraphStop → Type 0
AddsDevice old new names (Ok n) =
    (n ≡ length old.devices) × (new ≡ record old { devices = old.devices ++ names ∷ [] })
    × (length (interfaces_of old.attrs names) ≤ MAX_INTERFACES)
AddsDevice old new names (Err TooMany) = (new ≡ old) × (MAX_INTERFACES < length (interfaces_of old.attrs names))
AddsDevice old new names (Err Memory) = new ≡ old

-- how many there are, or that they are too many
abbrev pub CountsReach : List ℕ → Option ℕ → Type 0
CountsReach list (Some n) = (n ≡ length list) × (n ≤ MAX_INTERFACES)
CountsReach list None = MAX_INTERFACES < length list
