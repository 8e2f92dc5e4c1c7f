-- What the graph of lists says is what the lists say.
use Rattle.std.proofs.Common.{◌≡◌, ◌≤◌, ℕ, zero, suc, List, [], ◌∷◌, map, length, Option, refl, ap, ◌∙◌}
use Rattle.std.specs.Prelude.{slice_get}
use Rattle.std.specs.List.{slice_index_or}
use Rattle.std.specs.Option.{option_map_or}
use Rattle.std.proofs.lemmas.List.{length-map}
use Rattle.std.proofs.lemmas.Option.{slice_get_past}
use Rattle.cf_types.specs.declared.declared.Declared.{Declared}
use Rattle.cf_types.specs.declared.tables.Device.{Device}
use Rattle.cf_types.specs.Gather.{is_in}
use Rattle.cf_types.specs.Offers.{Node, firsts, interfaces, interfaces_of, named_by, nodes_of, offers}
use Rattle.attr_graph.specs.Graphs.{IsGraphOf}
use Rattle.attr_graph.specs.Reach.{Shape}

listed : (nodes : List Node) (devices : List Device) (n : ℕ) → interfaces_of nodes (slice_index_or (map named_by devices) n []) ≡ option_map_or (λ x. interfaces_of nodes (named_by x)) (slice_get devices n) []
unfolding interfaces_of firsts
listed nodes [] n = refl
listed nodes (x ∷ devices) zero = refl
listed nodes (x ∷ devices) (suc n) = listed nodes devices n

-- the interface list of the device of this number, by the graph
pub graph_interfaces : (d : Declared) (g : Shape) → IsGraphOf d g → (n : ℕ) → interfaces_of g.attrs (slice_index_or g.devices n []) ≡ interfaces d.attrs d.devices n
unfolding interfaces
graph_interfaces d g h n =
    ap (λ (nodes : List Node). interfaces_of nodes (slice_index_or g.devices n [])) h.attrs
    ∙ ap (λ (names : List (List ℕ)). interfaces_of (nodes_of d.attrs) (slice_index_or names n [])) h.devices
    ∙ listed (nodes_of d.attrs) d.devices n

-- and whether it offers an attribute
pub graph_offers : (d : Declared) (g : Shape) → IsGraphOf d g → (n a : ℕ) → is_in a (interfaces_of g.attrs (slice_index_or g.devices n [])) ≡ offers d.attrs d.devices n a
unfolding offers
graph_offers d g h n a = ap (is_in a) (graph_interfaces d g h n)

-- the graph has as many devices
pub graph_devices : (d : Declared) (g : Shape) → IsGraphOf d g → length g.devices ≡ length d.devices
graph_devices d g h = ap length h.devices ∙ length-map d.devices named_by

-- beyond the devices nothing is offered
pub none_offered : (d : Declared) (n : ℕ) → length d.devices ≤ n → interfaces d.attrs d.devices n ≡ []
unfolding interfaces
none_offered d n past =
    ap (λ (o : Option Device). option_map_or (λ x. interfaces_of (nodes_of d.attrs) (named_by x)) o []) (slice_get_past d.devices n past)
