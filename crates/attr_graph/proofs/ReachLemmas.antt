-- One more number that is gathered, or unmarked.
use Rattle.std.proofs.Common.{◌≡◌, ℕ, ◌+◌, ◌<◌, ◌≤◌, Bool, true, false, cond, subst, List, [], ◌∷◌, ◌++◌, ◌-◌, length, length-append, append-nil, append_assoc, get_or, take, drop, refl, ap, sym, ◌∙◌, arith, ◌||◌, ◌⊎◌, inl, inr}
use Rattle.std.specs.Prelude.{flat_map, filter, nat_le, is_some, All, Err, IfSome, Option, None, Some}
use Rattle.std.proofs.lemmas.Bool.{le-leb}
use Rattle.std.specs.Option.{option_map_or}
use Rattle.std.specs.Prelude.{◌==◌, not}
use Rattle.std.specs.List.{list_all, slice_index_or}
use Rattle.std.proofs.lemmas.List.{drop_more, take_all, take_more}
use Rattle.std.proofs.lemmas.List.Concat.{flat_map-append}
use Rattle.attr_graph.proofs.KeptLemmas.{one_within}
use Rattle.std.proofs.lemmas.List.Elements.{All-head, All-tail, All-take}
use Rattle.std.proofs.lemmas.List.Folds.{list_all_at, list_any-append}
use Rattle.std.proofs.lemmas.Option.{slice_get_past, slice_get_read}
use Rattle.attr_graph.specs.declared.entry.AttrEntry.{AttrEntry}
use Rattle.attr_graph.specs.declared.gather.GraphStop.{GraphStop}
use Rattle.attr_graph.specs.declared.gather.GraphStop.TheVariants.{TooMany, Memory}
use Rattle.attr_graph.specs.declared.gather.TheConstants.{MAX_INTERFACES}
use Rattle.attr_graph.specs.Reach.{Gathers, AreMarks, IsSplit, KeptAttrs, MakesAttr, MakesDevice, StandOnce, node_of, nodes_of, new_list, reach_at}
use Rattle.cf_types.specs.Offers.{Node, firsts, interfaces_of, is_interface_node, walks}
use Rattle.std.proofs.lemmas.List.{length-map}
use Rattle.cf_types.specs.Gather.{is_in, with_new, with_all}
use Rattle.cf_types.proofs.OfferLemmas.{compare_numbers, with_all-append, gathered_reach, interfaces_new}

-- one more number
pub gather_step : (xs ys more all : List ℕ) (i : ℕ) → i < length ys → more ≡ with_new xs (get_or ys i 0) → with_all xs (drop i ys) ≡ all → with_all more (drop (i + 1) ys) ≡ all
gather_step xs ys more all i h e so_far =
    ap (λ zs. with_all zs (drop (i + 1) ys)) e ∙ ap (with_all xs) (sym (drop_more ys i 0 h)) ∙ so_far

-- one more piece
pub reach_step : (f : ℕ → List ℕ) (xs ys more all piece : List ℕ) (i : ℕ) → i < length ys → piece ≡ f (get_or ys i 0) → more ≡ with_all xs piece → with_all xs (flat_map f (drop i ys)) ≡ all → with_all more (flat_map f (drop (i + 1) ys)) ≡ all
reach_step f xs ys more all piece i h p e so_far =
    ap (λ zs. with_all zs (flat_map f (drop (i + 1) ys))) (e ∙ ap (with_all xs) p)
    ∙ sym (with_all-append xs (f (get_or ys i 0)) (flat_map f (drop (i + 1) ys)))
    ∙ ap (λ zs. with_all xs (flat_map f zs)) (sym (drop_more ys i 0 h)) ∙ so_far

-- the interface list that was read
pub reach_read : (attrs : List AttrEntry) (a : ℕ) (e : AttrEntry) → a < length attrs → e ≡ get_or attrs a e → e.reach ≡ reach_at attrs a
reach_read attrs a e h is = sym (ap (λ o. option_map_or (λ x. x.reach) o []) (slice_get_read attrs (length attrs) a e refl h is))

known_lists : (attrs : List AttrEntry) (marks : List Bool) (names : List ℕ) → KeptAttrs attrs marks → All (λ a. a < length attrs) names → All (λ b. reach_at attrs b ≡ interfaces_of (nodes_of attrs) (b ∷ [])) names
known_lists attrs marks names kept known k d p = kept.lists (get_or names k d) (known k d p)

-- what is gathered for a device
pub device_list : (attrs : List AttrEntry) (marks : List Bool) (names : List ℕ) → KeptAttrs attrs marks → All (λ a. a < length attrs) names → with_all [] (flat_map (reach_at attrs) names) ≡ interfaces_of (nodes_of attrs) names
unfolding interfaces_of firsts
device_list attrs marks names kept known =
    gathered_reach (nodes_of attrs) [] names (reach_at attrs) refl (known_lists attrs marks names kept known)

firsts_itself : (b : Bool) (n : ℕ) → firsts (cond b (n ∷ []) []) ≡ cond b (n ∷ []) []
unfolding firsts
firsts_itself true n = refl
firsts_itself false n = refl

-- what is gathered for an attribute
pub attr_list : (attrs : List AttrEntry) (marks : List Bool) (node : Node) (own : List ℕ) → KeptAttrs attrs marks → All (λ a. a < length attrs) node.needs → own ≡ cond node.iface (length attrs ∷ []) [] → with_all own (flat_map (reach_at attrs) node.needs) ≡ new_list attrs node
attr_list attrs marks node own kept known e =
    let size : length (nodes_of attrs) ≡ length attrs = length-map attrs node_of in
    let below : All (λ b. b < length (nodes_of attrs)) node.needs = subst (λ (n : ℕ). All (λ b. b < n) node.needs) (sym size) known in
    ap (λ xs. with_all xs (flat_map (reach_at attrs) node.needs)) e
    ∙ gathered_reach (nodes_of attrs) (cond node.iface (length attrs ∷ []) []) node.needs (reach_at attrs) (firsts_itself node.iface (length attrs)) (known_lists attrs marks node.needs kept known)
    ∙ ap (λ n. firsts (cond node.iface (n ∷ []) [] ++ filter (is_interface_node (nodes_of attrs)) (walks (nodes_of attrs) node.needs))) (sym size)
    ∙ sym (interfaces_new (nodes_of attrs) kept.earlier node below)
    ∙ ap (λ n. interfaces_of (nodes_of attrs ++ node ∷ []) (n ∷ [])) size

pub attr_stops : (attrs : List AttrEntry) (node : Node) (marks : List Bool) (list : List ℕ) (stop : GraphStop) → list ≡ new_list attrs node → Gathers list (Err stop) → MakesAttr attrs node marks (Err stop)
attr_stops attrs node marks list TooMany e h = subst (λ (xs : List ℕ). MAX_INTERFACES < length xs) e h
attr_stops attrs node marks list Memory e h = tt

pub device_stops : (attrs : List AttrEntry) (names list : List ℕ) (stop : GraphStop) → list ≡ interfaces_of (nodes_of attrs) names → Gathers list (Err stop) → MakesDevice attrs names (Err stop)
device_stops attrs names list TooMany e h = subst (λ (xs : List ℕ). MAX_INTERFACES < length xs) e h
device_stops attrs names list Memory e h = tt

-- ---- how long the lists are

-- one more list is counted
pub count_step : (f : ℕ → List ℕ) (ys piece : List ℕ) (i count more all : ℕ) → i < length ys → piece ≡ f (get_or ys i 0) → more ≡ count + length piece
    → count + length (flat_map f (drop i ys)) ≡ all → more + length (flat_map f (drop (i + 1) ys)) ≡ all
count_step f ys piece i count more all h p e so_far =
    let now : length (flat_map f (drop i ys)) ≡ length piece + length (flat_map f (drop (i + 1) ys)) =
    ap (λ zs. length (flat_map f zs)) (drop_more ys i 0 h) ∙ length-append (f (get_or ys i 0)) (flat_map f (drop (i + 1) ys))
    ∙ ap (λ (zs : List ℕ). length zs + length (flat_map f (drop (i + 1) ys))) (sym p) in
    omega (arith, now, e, so_far)

one_more_at_most : (b : Bool) (x : ℕ) (xs : List ℕ) → length (cond b xs (xs ++ x ∷ [])) ≤ length xs + 1
one_more_at_most true x xs = omega arith
one_more_at_most false x xs = omega (arith, length-append xs (x ∷ []))

with_all-length : (xs ys : List ℕ) → length (with_all xs ys) ≤ length xs + length ys
with_all-length xs [] = omega arith
with_all-length xs (y ∷ ys) = omega (arith, with_all-length (with_new xs y) ys, one_more_at_most (is_in y xs) y xs)

-- ---- a list of which nothing stands there

unless_long : (b : Bool) (y : ℕ) (zs ys : List ℕ) → b ≡ is_in y zs → with_all (cond b zs (zs ++ y ∷ [])) ys ≡ zs ++ y ∷ ys → false ≡ b
unless_long false y zs ys is e = refl
unless_long true y zs ys is e =
    absurd (let long : length (with_all zs ys) ≡ length zs + length (y ∷ ys) = ap length e ∙ length-append zs (y ∷ ys) in omega (arith, long, with_all-length zs ys))

-- what is appended to a list as a whole, is so behind another list that has none of it
apart_behind : (xs zs ys : List ℕ) → with_all zs ys ≡ zs ++ ys → All (λ y. is_in y xs ≡ false) ys → with_all (xs ++ zs) ys ≡ (xs ++ zs) ++ ys
apart_behind xs zs [] whole apart = sym (append-nil (xs ++ zs))
apart_behind xs zs (y ∷ ys) whole apart =
    let new : false ≡ is_in y zs = unless_long (is_in y zs) y zs ys refl whole in
    let here : is_in y xs ≡ false = All-head (λ x. is_in x xs ≡ false) y ys apart in
    let outside : is_in y (xs ++ zs) ≡ false = list_any-append (λ x. x == y) xs zs ∙ ap (λ b. b || is_in y zs) here ∙ sym new in
    let rest : with_all (zs ++ y ∷ []) ys ≡ (zs ++ y ∷ []) ++ ys =
    ap (λ b. with_all (cond b zs (zs ++ y ∷ [])) ys) new ∙ whole ∙ sym (append_assoc zs (y ∷ []) ys) in
    ap (λ b. with_all (cond b (xs ++ zs) ((xs ++ zs) ++ y ∷ [])) ys) outside
    ∙ ap (λ ws. with_all ws ys) (append_assoc xs zs (y ∷ []))
    ∙ apart_behind xs (zs ++ y ∷ []) ys rest (All-tail (λ x. is_in x xs ≡ false) y ys apart)
    ∙ ap (λ ws. ws ++ ys) (sym (append_assoc xs zs (y ∷ [])))
    ∙ append_assoc (xs ++ zs) (y ∷ []) ys

pub apart_all : (xs ys : List ℕ) → StandOnce ys → All (λ y. is_in y xs ≡ false) ys → with_all xs ys ≡ xs ++ ys
apart_all xs ys once apart =
    ap (λ ws. with_all ws ys) (sym (append-nil xs)) ∙ apart_behind xs [] ys once apart ∙ ap (λ ws. ws ++ ys) (append-nil xs)

-- no number of a list is marked, where what is marked is another list
pub unmarked_apart : (list : List ℕ) (marks : List Bool) (numbers : List ℕ) → AreMarks list marks → list_all (λ x. not (slice_index_or marks x false)) numbers ≡ true → All (λ x. x < length marks) numbers → All (λ y. is_in y list ≡ false) numbers
unmarked_apart list marks numbers marked unmarked within k d p = by_test (slice_index_or marks (get_or numbers k d) false) refl
  where
    by_test : (b : Bool) → slice_index_or marks (get_or numbers k d) false ≡ b → is_in (get_or numbers k d) list ≡ false
    by_test false e = sym (marked.marked (get_or numbers k d) (within k d p)) ∙ e
    by_test true e = absurd (let no : list_all (λ x. not (slice_index_or marks x false)) numbers ≡ false = list_all_at (λ x. not (slice_index_or marks x false)) numbers k d p (ap not e) in cc)

-- what the last attribute offers has what each attribute's list has
pub of_last : (attrs : List AttrEntry) (names front last : List ℕ) (P : List ℕ → Type 0) → IsSplit attrs names front last → P [] → ((a : ℕ) → P (reach_at attrs a)) → P last
of_last attrs names front last P split none each = by_case split.of_last
  where
    by_case : (last ≡ []) ⊎ ((a : ℕ) × (last ≡ reach_at attrs a)) → P last
    by_case (inl e) = subst P (sym e) none
    by_case (inr (a, e)) = subst P (sym e) (each a)

pub split_at_last : (attrs : List AttrEntry) (names last : List ℕ) → 1 ≤ length names → All (λ a. a < length attrs) names → last ≡ reach_at attrs (get_or names (length names - 1) 0) → IsSplit attrs names (take (length names - 1) names) last
split_at_last attrs names last some known is =
    let at : ℕ = length names - 1 in
    let parts : take at names ++ get_or names at 0 ∷ [] ≡ names = sym (take_more names at 0 (omega arith)) ∙ take_all (at + 1) names (omega arith) in record {
      whole = ap (flat_map (reach_at attrs)) (sym parts) ∙ flat_map-append (reach_at attrs) (take at names) (get_or names at 0 ∷ [])
          ∙ ap (λ xs. flat_map (reach_at attrs) (take at names) ++ xs) (append-nil (reach_at attrs (get_or names at 0)) ∙ sym is);
      known = All-take (λ a. a < length attrs) at names known;
      of_last = inr (get_or names at 0, is);
    }

-- what is gathered of all names but the last, and then of the last
pub gathered_last : (attrs : List AttrEntry) (own names front last : List ℕ) → IsSplit attrs names front last → with_all (with_all own (flat_map (reach_at attrs) front)) last ≡ with_all own (flat_map (reach_at attrs) names)
gathered_last attrs own names front last split =
    sym (with_all-append own (flat_map (reach_at attrs) front) last) ∙ ap (with_all own) (sym split.whole)

-- in each attribute's list each number stands once
pub lists_once : (attrs : List AttrEntry) (marks : List Bool) → KeptAttrs attrs marks → (a : ℕ) → StandOnce (reach_at attrs a)
lists_once attrs marks kept a = by_case (compare_numbers a (length attrs))
  where
    past : length attrs ≤ a → StandOnce (reach_at attrs a)
    past h =
        let none : reach_at attrs a ≡ [] = ap (λ o. option_map_or (λ (x : AttrEntry). x.reach) o []) (slice_get_past attrs a h) in
        ap (with_all []) none ∙ sym none

    by_case : (a < length attrs) ⊎ ((a ≡ length attrs) ⊎ (length attrs < a)) → StandOnce (reach_at attrs a)
    by_case (inl h) =
        ap (with_all []) (sym (append-nil (reach_at attrs a)))
        ∙ device_list attrs marks (a ∷ []) kept (one_within (length attrs) a h) ∙ sym (kept.lists a h)
    by_case (inr (inl e)) = past (omega arith)
    by_case (inr (inr h)) = past (omega arith)

-- lists that are short together are so where each number stands once
pub short_fits : (attrs : List AttrEntry) (marks : List Bool) (names : List ℕ) (own n : ℕ) → KeptAttrs attrs marks → All (λ a. a < length attrs) names
    → n ≡ own + length (flat_map (reach_at attrs) names) → n ≤ MAX_INTERFACES → own + length (interfaces_of (nodes_of attrs) names) ≤ MAX_INTERFACES
short_fits attrs marks names own n kept known e h =
    let size : length (interfaces_of (nodes_of attrs) names) ≤ 0 + length (flat_map (reach_at attrs) names) =
    subst (λ (xs : List ℕ). length xs ≤ 0 + length (flat_map (reach_at attrs) names)) (device_list attrs marks names kept known) (with_all-length [] (flat_map (reach_at attrs) names)) in
    omega (arith, size, e, h)

pub fits_by_count : (attrs : List AttrEntry) (marks : List Bool) (names : List ℕ) (own : ℕ) (count : Option ℕ) → KeptAttrs attrs marks → All (λ a. a < length attrs) names
    → IfSome count (λ n. (n ≡ own + length (flat_map (reach_at attrs) names)) × (n ≤ MAX_INTERFACES)) → is_some count ≡ true → true ≡ nat_le (own + length (interfaces_of (nodes_of attrs) names)) MAX_INTERFACES
fits_by_count attrs marks names own None kept known counted some = absurd (cc)
fits_by_count attrs marks names own (Some n) kept known counted some =
    sym (le-leb (own + length (interfaces_of (nodes_of attrs) names)) MAX_INTERFACES (short_fits attrs marks names own n kept known counted.0 counted.1))
