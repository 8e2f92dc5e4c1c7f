-- One more attribute or device of a graph that is built from lists.
use Rattle.std.proofs.Common.{◌≡◌, ℕ, ◌+◌, ◌<◌, ◌≤◌, List, [], ◌∷◌, ◌++◌, length, get_or, take, drop, refl, ap, sym, ◌∙◌, subst, arith, inl, inr, ◌⊎◌, append_assoc, append-nil, length-append, All}
use Rattle.std.specs.Prelude.{Option, option_map}
use Rattle.std.specs.Option.{option_map_or}
use Rattle.std.proofs.lemmas.List.{length-map, length-take-le, map-append, map_more, take-append-drop}
use Rattle.std.proofs.lemmas.Option.{slice_get_past, slice_get_read, slice_get-get_or, slice_get-map}
use Rattle.cf_types.specs.declared.tables.Attr.{Attr}
use Rattle.cf_types.specs.declared.tables.Device.{Device}
use Rattle.cf_types.specs.Offers.{Node, AreEarlier, interfaces, interfaces_of, named_by, needs_at, node_of, nodes_of}
use Rattle.cf_types.proofs.ListLemmas.{slice_get-append_front}
use Rattle.cf_types.proofs.OfferLemmas.{compare_numbers, interfaces_kept}
use Rattle.attr_graph.proofs.KeptLemmas.{one_within}

needs_front : (front rest : List Node) (a : ℕ) → AreEarlier (front ++ rest) → (a < length front) ⊎ ((a ≡ length front) ⊎ (length front < a)) → All (λ b. b < a) (needs_at front a)
needs_front front rest a e (inl p) =
    subst (λ (xs : List ℕ). All (λ b. b < a) xs) (ap (λ o. option_map_or (λ y. y.needs) o []) (slice_get-append_front front rest a p)) (e.earlier a)
needs_front front rest a e (inr p) =
    let past : length front ≤ a = elim p [ inl q ↦ omega arith | inr q ↦ omega arith ] in
    subst (λ (xs : List ℕ). All (λ b. b < a) xs) (sym (ap (λ o. option_map_or (λ (y : Node). y.needs) o []) (slice_get_past front a past))) (λ k d q. absurd (omega arith))

earlier_front : (front rest : List Node) → AreEarlier (front ++ rest) → AreEarlier front
earlier_front front rest e = record { earlier = λ a. needs_front front rest a e (compare_numbers a (length front)) }

-- what attributes at the front offer is the same among all
interfaces_front : (front rest : List Node) → AreEarlier (front ++ rest) → (names : List ℕ) → All (λ b. b < length front) names → interfaces_of (front ++ rest) names ≡ interfaces_of front names
interfaces_front front [] e names h = ap (λ (ns : List Node). interfaces_of ns names) (append-nil front)
interfaces_front front (x ∷ rest) e names h =
    let same : (front ++ x ∷ []) ++ rest ≡ front ++ x ∷ rest = append_assoc front (x ∷ []) rest in
    let within : All (λ b. b < length (front ++ x ∷ [])) names = λ k d p. (let q : get_or names k d < length front = h k d p in omega (arith, q, length-append front (x ∷ []))) in
    ap (λ (ns : List Node). interfaces_of ns names) (sym same)
    ∙ interfaces_front (front ++ x ∷ []) rest (subst (λ (ns : List Node). AreEarlier ns) (sym same) e) names within
    ∙ interfaces_kept front (earlier_front front (x ∷ rest) e) x names h

size_so_far : (attrs : List Attr) (i : ℕ) → i < length attrs → length (nodes_of (take i attrs)) ≡ i
size_so_far attrs i h = length-map (take i attrs) node_of ∙ length-take-le i attrs (omega arith)

-- one more attribute
pub node_more : (attrs : List Attr) (i : ℕ) (x : Attr) → i < length attrs → x ≡ get_or attrs i x → nodes_of (take (i + 1) attrs) ≡ nodes_of (take i attrs) ++ node_of x ∷ []
node_more attrs i x h is = map_more node_of attrs i x h ∙ ap (λ (y : Attr). nodes_of (take i attrs) ++ node_of y ∷ []) (sym is)

-- it names those before it
pub node_known : (attrs : List Attr) (i : ℕ) (x : Attr) → AreEarlier (nodes_of attrs) → i < length attrs → x ≡ get_or attrs i x → All (λ a. a < length (nodes_of (take i attrs))) x.needs
node_known attrs i x e h is =
    let here : needs_at (nodes_of attrs) i ≡ x.needs =
    ap (λ o. option_map_or (λ (y : Node). y.needs) o []) (slice_get-map node_of attrs i ∙ ap (option_map node_of) (slice_get_read attrs (length attrs) i x refl h is)) in
    subst (λ (n : ℕ). All (λ a. a < n) x.needs) (sym (size_so_far attrs i h)) (subst (λ (xs : List ℕ). All (λ a. a < i) xs) here (e.earlier i))

-- and offers as much among those before it as among all
pub node_offers : (attrs : List Attr) (i : ℕ) (x : Attr) → AreEarlier (nodes_of attrs) → i < length attrs → x ≡ get_or attrs i x
    → interfaces_of (nodes_of attrs) (i ∷ []) ≡ interfaces_of (nodes_of (take i attrs) ++ node_of x ∷ []) (length (nodes_of (take i attrs)) ∷ [])
node_offers attrs i x e h is =
    let front = nodes_of (take (i + 1) attrs) in
    let rest = nodes_of (drop (i + 1) attrs) in
    let all : front ++ rest ≡ nodes_of attrs = sym (map-append node_of (take (i + 1) attrs) (drop (i + 1) attrs)) ∙ ap nodes_of (take-append-drop (i + 1) attrs) in
    let size : length front ≡ i + 1 = length-map (take (i + 1) attrs) node_of ∙ length-take-le (i + 1) attrs (omega arith) in
    let here : All (λ b. b < length front) (i ∷ []) = one_within (length front) i (omega (arith, size)) in
    ap (λ (ns : List Node). interfaces_of ns (i ∷ [])) (sym all)
    ∙ interfaces_front front rest (subst (λ (ns : List Node). AreEarlier ns) (sym all) e) (i ∷ []) here
    ∙ ap (λ (ns : List Node). interfaces_of ns (i ∷ [])) (node_more attrs i x h is)
    ∙ ap (λ (n : ℕ). interfaces_of (nodes_of (take i attrs) ++ node_of x ∷ []) (n ∷ [])) (sym (size_so_far attrs i h))

-- each device offers few, where its interface list is short
pub devices_offer : (attrs : List Attr) (devices : List Device) (nodes : List Node) → nodes ≡ nodes_of attrs → ((d : ℕ) → length (interfaces attrs devices d) ≤ 64)
    → All (λ x. length (interfaces_of nodes (named_by x)) ≤ 64) devices
unfolding interfaces
devices_offer attrs devices nodes e few k x p =
    subst (λ (ns : List Node). length (interfaces_of ns (named_by (get_or devices k x))) ≤ 64) (sym e)
    (subst (λ (o : Option Device). length (option_map_or (λ y. interfaces_of (nodes_of attrs) (named_by y)) o []) ≤ 64) (slice_get-get_or devices k x p) (few k))
