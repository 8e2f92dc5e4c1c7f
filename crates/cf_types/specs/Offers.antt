-- Which interface attributes a device offers, after the interface attributes of config(5).
use Rattle.std.specs.Prelude.{ℕ, ◌<◌, zero, suc, if◌then◌else◌, Bool, false, not, ◌==◌, List, [], ◌∷◌, ◌++◌, length, map, filter, flat_map, slice_get}
use Rattle.std.specs.List.{list_any, All}
use Rattle.std.specs.Option.{option_map_or}
use Rattle.cf_types.specs.declared.tables.Attr.{Attr}
use Rattle.cf_types.specs.declared.tables.Device.{Device}

-- an attribute as a node of the graph: whether it is an interface attribute, and which attributes it names
pub record Node : Type 0 where
  pub iface : Bool
  pub needs : List ℕ

abbrev pub node_of : Attr → Node
node_of a = record { iface = a.iface; needs = a.needs }

abbrev pub nodes_of : List Attr → List Node
nodes_of attrs = map node_of attrs

-- the attributes that an attribute names
abbrev pub needs_at : List Node → ℕ → List ℕ
needs_at nodes a = option_map_or (λ x. x.needs) (slice_get nodes a) []

-- whether a node is that of an interface attribute
abbrev pub is_interface_node : List Node → ℕ → Bool
is_interface_node nodes a = option_map_or (λ x. x.iface) (slice_get nodes a) false

-- an attribute, followed by the walks of those that it names; they are earlier ones, so so many steps serve
unfoldable pub walk : ℕ → List Node → ℕ → List ℕ
walk zero nodes a = []
walk (suc n) nodes a = a ∷ flat_map (walk n nodes) (needs_at nodes a)

-- the walks of these attributes, one after the other
abbrev pub walks : List Node → List ℕ → List ℕ
walks nodes names = flat_map (walk (length nodes) nodes) names

-- each number at its first appearance
unfoldable pub firsts : List ℕ → List ℕ
firsts [] = []
firsts (x ∷ xs) = x ∷ filter (λ y. not (y == x)) (firsts xs)

-- the interface attributes of the walks of these attributes
unfoldable pub interfaces_of : List Node → List ℕ → List ℕ
interfaces_of nodes names = firsts (filter (is_interface_node nodes) (walks nodes names))

-- each attribute names earlier ones alone
pub record AreEarlier (nodes : List Node) : Type 0 where
  pub earlier : (a : ℕ) → All (λ b. b < a) (needs_at nodes a)

-- an attribute itself, where it is an interface attribute
abbrev pub itself : Node → ℕ → List ℕ
itself x a = if x.iface then a ∷ [] else []

-- whether an attribute is an interface attribute
abbrev pub is_interface : List Attr → ℕ → Bool
is_interface attrs a = option_map_or (λ x. x.iface) (slice_get attrs a) false

-- a device's own interface attribute, and then those that it names
abbrev pub named_by : Device → List ℕ
named_by d = option_map_or (λ own. own ∷ []) d.own [] ++ d.needs

-- the interface list of a device
unfoldable pub interfaces : List Attr → List Device → ℕ → List ℕ
interfaces attrs devices d = option_map_or (λ device. interfaces_of (nodes_of attrs) (named_by device)) (slice_get devices d) []

-- whether a device offers an attribute
unfoldable pub offers : List Attr → List Device → ℕ → ℕ → Bool
offers attrs devices d a = list_any (λ x. x == a) (interfaces attrs devices d)
