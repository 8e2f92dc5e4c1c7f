-- One more attribute keeps the lists of the graph.
use Rattle.std.proofs.Common.{◌≡◌, ℕ, zero, suc, ◌-◌, ◌<◌, Bool, List, [], ◌∷◌, ◌++◌, length, get_or, ap, sym, ◌∙◌, subst, arith, inl, inr, ◌⊎◌, length-append}
use Rattle.std.specs.Prelude.{slice_get, All, Ok, Option, Some, None}
use Rattle.std.specs.Option.{option_map_or}
use Rattle.std.proofs.lemmas.List.{length-map, map-append}
use Rattle.std.proofs.lemmas.List.Elements.{All-nil}
use Rattle.std.proofs.lemmas.Option.{slice_get_past}
use Rattle.cf_types.specs.Offers.{Node, AreEarlier, interfaces_of}
use Rattle.cf_types.proofs.ListLemmas.{slice_get-append_front, slice_get-append_back}
use Rattle.cf_types.proofs.OfferLemmas.{earlier_more, interfaces_kept, compare_numbers}
use Rattle.attr_graph.specs.declared.entry.AttrEntry.{AttrEntry}
use Rattle.attr_graph.specs.declared.entry.DeviceEntry.{DeviceEntry}
use Rattle.attr_graph.specs.Reach.{KeptAttrs, KeptDevices, MakesAttr, node_of, nodes_of, device_reach, new_list, reach_at, names_at}

abbrev pub Cases : ℕ → ℕ → Type 0
Cases a n = (a < n) ⊎ ((a ≡ n) ⊎ (n < a))

front_reach : (attrs : List AttrEntry) (e : AttrEntry) (a : ℕ) → a < length attrs → reach_at (attrs ++ e ∷ []) a ≡ reach_at attrs a
front_reach attrs e a h = ap (λ o. option_map_or (λ x. x.reach) o []) (slice_get-append_front attrs (e ∷ []) a h)

last_reach : (attrs : List AttrEntry) (e : AttrEntry) (a : ℕ) → a ≡ length attrs → reach_at (attrs ++ e ∷ []) a ≡ e.reach
last_reach attrs e a h =
    let z : a - length attrs ≡ 0 = omega arith in
    ap (λ o. option_map_or (λ x. x.reach) o []) (slice_get-append_back attrs (e ∷ []) a (omega arith) ∙ ap (slice_get (e ∷ [])) z)

past_reach : (attrs : List AttrEntry) (e : AttrEntry) (a : ℕ) → length attrs < a → reach_at (attrs ++ e ∷ []) a ≡ []
past_reach attrs e a h =
    ap (λ o. option_map_or (λ x. x.reach) o []) (slice_get_past (attrs ++ e ∷ []) a (omega (arith, length-append attrs (e ∷ []))))

pub one_within : (n a : ℕ) → a < n → All (λ b. b < n) (a ∷ [])
one_within n a h zero d p = h
one_within n a h (suc k) d p = absurd (omega arith)

nodes_more : (attrs : List AttrEntry) (e : AttrEntry) (node : Node) → node_of e ≡ node → nodes_of (attrs ++ e ∷ []) ≡ nodes_of attrs ++ node ∷ []
nodes_more attrs e node is = map-append node_of attrs (e ∷ []) ∙ ap (λ (n : Node). nodes_of attrs ++ n ∷ []) is

-- the names are those of attributes that are there
below_nodes : (attrs : List AttrEntry) (names : List ℕ) → All (λ a. a < length attrs) names → All (λ b. b < length (nodes_of attrs)) names
below_nodes attrs names h = subst (λ (n : ℕ). All (λ b. b < n) names) (sym (length-map attrs node_of)) h

-- what was offered stays
same_offer : (attrs : List AttrEntry) (e : AttrEntry) (node : Node) (names : List ℕ) → AreEarlier (nodes_of attrs) → node_of e ≡ node → All (λ a. a < length attrs) names → interfaces_of (nodes_of attrs) names ≡ interfaces_of (nodes_of (attrs ++ e ∷ [])) names
same_offer attrs e node names earlier is h =
    sym (ap (λ (ns : List Node). interfaces_of ns names) (nodes_more attrs e node is) ∙ interfaces_kept (nodes_of attrs) earlier node names (below_nodes attrs names h))

list_at : (attrs : List AttrEntry) (marks : List Bool) (e : AttrEntry) (node : Node) (a : ℕ) → KeptAttrs attrs marks → node_of e ≡ node → e.reach ≡ new_list attrs node → a < length (attrs ++ e ∷ []) → Cases a (length attrs) → reach_at (attrs ++ e ∷ []) a ≡ interfaces_of (nodes_of (attrs ++ e ∷ [])) (a ∷ [])
list_at attrs marks e node a kept is list h (inl p) =
    front_reach attrs e a p ∙ kept.lists a p ∙ same_offer attrs e node (a ∷ []) kept.earlier is (one_within (length attrs) a p)
list_at attrs marks e node a kept is list h (inr (inl p)) =
    last_reach attrs e a p ∙ list ∙ ap (λ n. interfaces_of (nodes_of attrs ++ node ∷ []) (n ∷ [])) (sym p)
    ∙ ap (λ (ns : List Node). interfaces_of ns (a ∷ [])) (sym (nodes_more attrs e node is))
list_at attrs marks e node a kept is list h (inr (inr p)) = absurd (omega (arith, length-append attrs (e ∷ [])))

within_at : (attrs : List AttrEntry) (marks : List Bool) (e : AttrEntry) (a : ℕ) → KeptAttrs attrs marks → All (λ x. x < length marks) e.reach → Cases a (length attrs) → All (λ x. x < length marks) (reach_at (attrs ++ e ∷ []) a)
within_at attrs marks e a kept h (inl p) = subst (λ (xs : List ℕ). All (λ x. x < length marks) xs) (sym (front_reach attrs e a p)) (kept.within a)
within_at attrs marks e a kept h (inr (inl p)) = subst (λ (xs : List ℕ). All (λ x. x < length marks) xs) (sym (last_reach attrs e a p)) h
within_at attrs marks e a kept h (inr (inr p)) = subst (λ (xs : List ℕ). All (λ x. x < length marks) xs) (sym (past_reach attrs e a p)) (λ k d q. absurd (omega arith))

-- what is kept of the attributes with one more
pub more_attrs : (attrs : List AttrEntry) (marks : List Bool) (e : AttrEntry) (node : Node) → KeptAttrs attrs marks → All (λ a. a < length attrs) node.needs → MakesAttr attrs node marks (Ok e) → KeptAttrs (attrs ++ e ∷ []) marks
more_attrs attrs marks e node kept known makes = record {
  earlier = subst (λ (ns : List Node). AreEarlier ns) (sym (nodes_more attrs e node makes.0)) (earlier_more (nodes_of attrs) node kept.earlier (below_nodes attrs node.needs known));
  lists = λ a h. list_at attrs marks e node a kept makes.0 makes.1 h (compare_numbers a (length attrs));
  within = λ a. within_at attrs marks e a kept makes.3 (compare_numbers a (length attrs));
  marked = kept.marked;
  room = omega (arith, makes.4, length-append attrs (e ∷ []));
}

-- and of the devices
pub more_devices : (attrs : List AttrEntry) (devices : List DeviceEntry) (e : AttrEntry) (node : Node) → AreEarlier (nodes_of attrs) → node_of e ≡ node → KeptDevices attrs devices → KeptDevices (attrs ++ e ∷ []) devices
more_devices attrs devices e node earlier is kept = record {
  known = λ d k x p. let h : get_or (names_at devices d) k x < length attrs = kept.known d k x p in omega (arith, h, length-append attrs (e ∷ []));
  lists = λ d p. kept.lists d p ∙ same_offer attrs e node (names_at devices d) earlier is (kept.known d);
}

-- one more device keeps the lists of the graph
device_behind : (devices : List DeviceEntry) (e : DeviceEntry) (d : ℕ) → d ≡ length devices → slice_get (devices ++ e ∷ []) d ≡ Some e
device_behind devices e d h =
    let z : d - length devices ≡ 0 = omega arith in
    slice_get-append_back devices (e ∷ []) d (omega arith) ∙ ap (slice_get (e ∷ [])) z

device_past : (devices : List DeviceEntry) (e : DeviceEntry) (d : ℕ) → length devices < d → slice_get (devices ++ e ∷ []) d ≡ None
device_past devices e d h = slice_get_past (devices ++ e ∷ []) d (omega (arith, length-append devices (e ∷ [])))

known_at : (attrs : List AttrEntry) (devices : List DeviceEntry) (e : DeviceEntry) (d : ℕ) → KeptDevices attrs devices → All (λ a. a < length attrs) e.names → Cases d (length devices)
    → All (λ a. a < length attrs) (names_at (devices ++ e ∷ []) d)
known_at attrs devices e d kept known (inl p) =
    subst (λ (o : Option DeviceEntry). All (λ a. a < length attrs) (option_map_or (λ x. x.names) o [])) (sym (slice_get-append_front devices (e ∷ []) d p)) (kept.known d)
known_at attrs devices e d kept known (inr (inl p)) =
    subst (λ (o : Option DeviceEntry). All (λ a. a < length attrs) (option_map_or (λ x. x.names) o [])) (sym (device_behind devices e d p)) known
known_at attrs devices e d kept known (inr (inr p)) =
    subst (λ (o : Option DeviceEntry). All (λ a. a < length attrs) (option_map_or (λ x. x.names) o [])) (sym (device_past devices e d p)) (All-nil (λ a. a < length attrs))

listed_at : (attrs : List AttrEntry) (devices : List DeviceEntry) (e : DeviceEntry) (d : ℕ) → KeptDevices attrs devices → e.reach ≡ interfaces_of (nodes_of attrs) e.names → d < length (devices ++ e ∷ []) → Cases d (length devices)
    → device_reach (devices ++ e ∷ []) d ≡ interfaces_of (nodes_of attrs) (names_at (devices ++ e ∷ []) d)
listed_at attrs devices e d kept list h (inl p) =
    subst (λ (o : Option DeviceEntry). option_map_or (λ x. x.reach) o [] ≡ interfaces_of (nodes_of attrs) (option_map_or (λ x. x.names) o [])) (sym (slice_get-append_front devices (e ∷ []) d p)) (kept.lists d p)
listed_at attrs devices e d kept list h (inr (inl p)) =
    subst (λ (o : Option DeviceEntry). option_map_or (λ x. x.reach) o [] ≡ interfaces_of (nodes_of attrs) (option_map_or (λ x. x.names) o [])) (sym (device_behind devices e d p)) list
listed_at attrs devices e d kept list h (inr (inr p)) = absurd (omega (arith, h, p, length-append devices (e ∷ [])))

pub one_device : (attrs : List AttrEntry) (devices : List DeviceEntry) (e : DeviceEntry) → KeptDevices attrs devices → All (λ a. a < length attrs) e.names → e.reach ≡ interfaces_of (nodes_of attrs) e.names
    → KeptDevices attrs (devices ++ e ∷ [])
one_device attrs devices e kept known list = record {
  known = λ d. known_at attrs devices e d kept known (compare_numbers d (length devices));
  lists = λ d p. listed_at attrs devices e d kept list p (compare_numbers d (length devices));
}
