-- Marks of attributes, and what attributes need.
use Rattle.std.proofs.Common.{◌≡◌, ℕ, ◌+◌, ◌<◌, ◌≤◌, zero, suc, arith, Bool, true, false, ◌||◌, cond, List, [], ◌∷◌, ◌++◌, length, get_or, set, take, drop, refl, ap, sym, subst, ◌∙◌, append-nil, get_or-set_same, get_or-set_other, ◌≢◌, ◌⊎◌, inl, inr}
use Rattle.std.specs.Prelude.{◌==◌, filter, flat_map, replicate}
use Rattle.std.specs.List.{All}
use Rattle.std.proofs.Math.Bool.{or-false}
use Rattle.std.proofs.lemmas.Bool.{cases_lt, eqb-true, eq-eqb}
use Rattle.std.proofs.lemmas.List.{drop_all, take_all, get_or_past, get_or-replicate, length-replicate, take_more, flat_map_more}
use Rattle.std.proofs.lemmas.List.Elements.{filter-append, All-head, All-tail, All-weaker}
use Rattle.cf_types.proofs.TestLemmas.{same_answer, equal_itself}
use Rattle.cf_types.proofs.OfferLemmas.{is_in-append}
use Rattle.cf_types.specs.Gather.{is_in}
use Rattle.cf_types.specs.Numbers.{below}
use Rattle.cf_types.specs.Offers.{Node, AreEarlier, needs_at, nodes_of, walk, walks}
use Rattle.cf_types.specs.declared.tables.Attr.{Attr}
use Rattle.file_rules.specs.Chosen.{attr_name}
use Rattle.file_select.specs.Marks.{AddsMarks}

or_grouped : (a b c : Bool) → ((a || b) || c) ≡ (a || (b || c))
or_grouped true b c = refl
or_grouped false b c = refl

-- ---- marks that are added

pub adds_none : (a : List Bool) → AddsMarks a a []
adds_none a = record { size = refl; marked = λ x. sym (or-false (get_or a x false)) }

pub adds_both : (a b c : List Bool) (xs ys : List ℕ) → AddsMarks a b xs → AddsMarks b c ys → AddsMarks a c (xs ++ ys)
adds_both a b c xs ys h k = record {
  size = k.size ∙ h.size;
  marked = λ x.
      k.marked x ∙ ap (λ v. v || is_in x ys) (h.marked x) ∙ or_grouped (get_or a x false) (is_in x xs) (is_in x ys)
      ∙ ap (λ v. get_or a x false || v) (sym (is_in-append x xs ys));
}

set_at : (a : List Bool) (i x : ℕ) (b : Bool) → (i == x) ≡ b → i < length a → get_or (set a i true) x false ≡ (get_or a x false || (b || false))
set_at a i x true e h =
    let same : i ≡ x = eqb-true i x e in
    ap (λ k. get_or (set a i true) k false) (sym same) ∙ get_or-set_same a i true false h ∙ sym (right_true (get_or a x false))
  where
    right_true : (v : Bool) → (v || true) ≡ true
    right_true true = refl
    right_true false = refl
set_at a i x false e h =
    let other : x ≢ i = λ s. let t : (i == x) ≡ true = eq-eqb i x (sym s) in absurd (cc) in
    get_or-set_other a i x true false other ∙ sym (or-false (get_or a x false))

pub adds_one : (a b : List Bool) (i : ℕ) → i < length a → b ≡ set a i true → length b ≡ length a → AddsMarks a b (i ∷ [])
adds_one a b i h e size = record { size = size; marked = λ x. ap (λ m. get_or m x false) e ∙ set_at a i x (i == x) refl h }

-- one more of several
pub adds_more : (a b c : List Bool) (xs : List ℕ) (i x : ℕ) → i < length xs → x ≡ get_or xs i x → AddsMarks a b (take i xs) → AddsMarks b c (x ∷ []) → AddsMarks a c (take (i + 1) xs)
adds_more a b c xs i x h is so_far one =
    subst (λ (ys : List ℕ). AddsMarks a c ys) (ap (λ y. take i xs ++ y ∷ []) is ∙ sym (take_more xs i x h)) (adds_both a b c (take i xs) (x ∷ []) so_far one)

-- the numbers of one more element
pub adds_piece : {X : Type 0} (f : X → List ℕ) (a b c : List Bool) (xs : List X) (i : ℕ) (x : X) → i < length xs → x ≡ get_or xs i x → AddsMarks a b (flat_map f (take i xs)) → AddsMarks b c (f x) → AddsMarks a c (flat_map f (take (i + 1) xs))
adds_piece f a b c xs i x h is so_far one =
    subst (λ ys. AddsMarks a c ys)
    (ap (λ y. flat_map f (take i xs) ++ f y) is ∙ flat_map_more f [] (take i xs) (get_or xs i x) ∙ ap (flat_map f) (sym (take_more xs i x h)))
    (adds_both a b c (flat_map f (take i xs)) (f x) so_far one)

-- ---- numbers that pass

pub filter_below : (p : ℕ → Bool) (i : ℕ) → filter p (below (i + 1)) ≡ filter p (below i) ++ cond (p i) (i ∷ []) []
filter_below p i = let e : i + 1 ≡ suc i = omega arith in ap (λ k. filter p (below k)) e ∙ filter-append p (below i) (i ∷ [])

pub adds_test : (p : ℕ → Bool) (a b c : List Bool) (i : ℕ) (v : Bool) → p i ≡ v → AddsMarks a b (filter p (below i)) → AddsMarks b c (cond v (i ∷ []) []) → AddsMarks a c (filter p (below (i + 1)))
adds_test p a b c i v e so_far one =
    subst (λ (ys : List ℕ). AddsMarks a c ys) (ap (λ w. filter p (below i) ++ cond w (i ∷ []) []) (sym e) ∙ sym (filter_below p i)) (adds_both a b c (filter p (below i)) (cond v (i ∷ []) []) so_far one)

-- ---- what attributes need

pub in_cases : (b c : Bool) → (b || c) ≡ true → (b ≡ true) ⊎ (c ≡ true)
in_cases true c h = inl refl
in_cases false c h = inr h

pub in_left : (b c : Bool) → b ≡ true → (b || c) ≡ true
in_left true c h = refl
in_left false c h = absurd (cc)

pub in_right : (b c : Bool) → c ≡ true → (b || c) ≡ true
in_right true c h = refl
in_right false c h = h

-- a number is in one of the pieces
piece_with : (f : ℕ → List ℕ) (xs : List ℕ) (a : ℕ) → is_in a (flat_map f xs) ≡ true → (x : ℕ) × (is_in x xs ≡ true) × (is_in a (f x) ≡ true)
piece_with f [] a h = absurd (cc)
piece_with f (x ∷ xs) a h = by (in_cases (is_in a (f x)) (is_in a (flat_map f xs)) (sym (is_in-append a (f x) (flat_map f xs)) ∙ h)) (piece_with f xs a)
  where
    by : (is_in a (f x) ≡ true) ⊎ (is_in a (flat_map f xs) ≡ true) → (is_in a (flat_map f xs) ≡ true → (y : ℕ) × (is_in y xs ≡ true) × (is_in a (f y) ≡ true)) → (y : ℕ) × (is_in y (x ∷ xs) ≡ true) × (is_in a (f y) ≡ true)
    by (inl k) later = (x, in_left (x == x) (is_in x xs) (equal_itself x), k)
    by (inr k) later = let r = later k in (r.0, in_right (x == r.0) (is_in r.0 xs) r.1, r.2)

in_piece : (f : ℕ → List ℕ) (xs : List ℕ) (x a : ℕ) → is_in x xs ≡ true → is_in a (f x) ≡ true → is_in a (flat_map f xs) ≡ true
in_piece f [] x a h k = absurd (cc)
in_piece f (y ∷ ys) x a h k = is_in-append a (f y) (flat_map f ys) ∙ by (in_cases (y == x) (is_in x ys) h) (λ e. in_piece f ys x a e k)
  where
    by : ((y == x) ≡ true) ⊎ (is_in x ys ≡ true) → (is_in x ys ≡ true → is_in a (flat_map f ys) ≡ true) → (is_in a (f y) || is_in a (flat_map f ys)) ≡ true
    by (inl e) later = in_left (is_in a (f y)) (is_in a (flat_map f ys)) (ap (λ z. is_in a (f z)) (eqb-true y x e) ∙ k)
    by (inr e) later = in_right (is_in a (f y)) (is_in a (flat_map f ys)) (later e)

all_in : (P : ℕ → Type 0) (xs : List ℕ) (x : ℕ) → All P xs → is_in x xs ≡ true → P x
all_in P [] x h k = absurd (cc)
all_in P (y ∷ ys) x h k = by (in_cases (y == x) (is_in x ys) k) (all_in P ys x (All-tail P y ys h))
  where
    by : ((y == x) ≡ true) ⊎ (is_in x ys ≡ true) → (is_in x ys ≡ true → P x) → P x
    by (inl e) later = subst P (eqb-true y x e) (All-head P y ys h)
    by (inr e) later = later e

walk_itself : (nodes : List Node) (m c : ℕ) → c < m → is_in c (walk m nodes c) ≡ true
unfolding walk
walk_itself nodes zero c p = absurd (omega arith)
walk_itself nodes (suc m) c p = in_left (c == c) (is_in c (flat_map (walk m nodes) (needs_at nodes c))) (equal_itself c)

-- what one of a walk needs is in the walk too
walk_closed : (nodes : List Node) → AreEarlier nodes → (n w a b : ℕ) → w < n → is_in a (walk n nodes w) ≡ true → is_in b (needs_at nodes a) ≡ true → is_in b (walk n nodes w) ≡ true
unfolding walk
walk_closed nodes e zero w a b h k r = absurd (omega arith)
walk_closed nodes e (suc n) w a b h k r = by (in_cases (w == a) (is_in a (flat_map (walk n nodes) (needs_at nodes w))) k) (λ c p q. walk_closed nodes e n c a b p q r)
  where
    by : ((w == a) ≡ true) ⊎ (is_in a (flat_map (walk n nodes) (needs_at nodes w)) ≡ true) → ((c : ℕ) → c < n → is_in a (walk n nodes c) ≡ true → is_in b (walk n nodes c) ≡ true) → ((w == b) || is_in b (flat_map (walk n nodes) (needs_at nodes w))) ≡ true
    by (inl s) later =
        let needed : is_in b (needs_at nodes w) ≡ true = ap (λ x. is_in b (needs_at nodes x)) (eqb-true w a s) ∙ r in
        let less : b < w = all_in (λ x. x < w) (needs_at nodes w) b (e.earlier w) needed in
        in_right (w == b) _ (in_piece (walk n nodes) (needs_at nodes w) b b needed (walk_itself nodes n b (omega arith)))
    by (inr s) later =
        let p = piece_with (walk n nodes) (needs_at nodes w) a s in
        let less : p.0 < w = all_in (λ x. x < w) (needs_at nodes w) p.0 (e.earlier w) p.1 in
        in_right (w == b) _ (in_piece (walk n nodes) (needs_at nodes w) p.0 b p.1 (later p.0 (omega arith) p.2))

-- marks that are closed have what a walk from one of them has
walk_marked : (nodes : List Node) (marks : List Bool) → ((a : ℕ) → get_or marks a false ≡ true → (b : ℕ) → is_in b (needs_at nodes a) ≡ true → get_or marks b false ≡ true) → (n w a : ℕ) → get_or marks w false ≡ true → is_in a (walk n nodes w) ≡ true → get_or marks a false ≡ true
unfolding walk
walk_marked nodes marks closed zero w a h k = absurd (cc)
walk_marked nodes marks closed (suc n) w a h k = by (in_cases (w == a) (is_in a (flat_map (walk n nodes) (needs_at nodes w))) k) (λ c p q. walk_marked nodes marks closed n c a p q)
  where
    by : ((w == a) ≡ true) ⊎ (is_in a (flat_map (walk n nodes) (needs_at nodes w)) ≡ true) → ((c : ℕ) → get_or marks c false ≡ true → is_in a (walk n nodes c) ≡ true → get_or marks a false ≡ true) → get_or marks a false ≡ true
    by (inl s) later = ap (λ x. get_or marks x false) (sym (eqb-true w a s)) ∙ h
    by (inr s) later =
        let p = piece_with (walk n nodes) (needs_at nodes w) a s in
        later p.0 (closed w h p.0 p.1) p.2

-- how far marks are spread, from the last attribute down to this one
pub record Spreads (nodes : List Node) (old marks : List Bool) (next : ℕ) : Type 0 where
  pub size : length marks ≡ length old
  pub kept : (a : ℕ) → get_or old a false ≡ true → get_or marks a false ≡ true
  pub sound : (wanted : List ℕ) → All (λ a. a < length nodes) wanted → ((a : ℕ) → get_or old a false ≡ is_in a wanted) → (a : ℕ) → get_or marks a false ≡ true → is_in a (walks nodes wanted) ≡ true
  pub closed : (a : ℕ) → next ≤ a → get_or marks a false ≡ true → (b : ℕ) → is_in b (needs_at nodes a) ≡ true → get_or marks b false ≡ true

in_walks : (nodes : List Node) (wanted : List ℕ) → All (λ a. a < length nodes) wanted → (a : ℕ) → is_in a wanted ≡ true → is_in a (walks nodes wanted) ≡ true
in_walks nodes wanted h a k = in_piece (walk (length nodes) nodes) wanted a a k (walk_itself nodes (length nodes) a (all_in (λ x. x < length nodes) wanted a h k))

walks_closed : (nodes : List Node) → AreEarlier nodes → (wanted : List ℕ) → All (λ a. a < length nodes) wanted → (a b : ℕ) → is_in a (walks nodes wanted) ≡ true → is_in b (needs_at nodes a) ≡ true → is_in b (walks nodes wanted) ≡ true
walks_closed nodes e wanted h a b k r =
    let p = piece_with (walk (length nodes) nodes) wanted a k in
    in_piece (walk (length nodes) nodes) wanted p.0 b p.1 (walk_closed nodes e (length nodes) p.0 a b (all_in (λ x. x < length nodes) wanted p.0 h p.1) p.2 r)

past : (marks : List Bool) (a : ℕ) → length marks ≤ a → get_or marks a false ≡ false
past marks a h = get_or_past marks a false h

pub spread_none : (nodes : List Node) (marks : List Bool) (n : ℕ) → length marks ≤ n → Spreads nodes marks marks n
spread_none nodes marks n size = record {
  size = refl;
  kept = λ a h. h;
  sound = λ wanted w same a h. in_walks nodes wanted w a (sym (same a) ∙ h);
  closed = λ a above h b need. let none : get_or marks a false ≡ false = past marks a (omega arith) in absurd (cc);
}

or_true : (a b : Bool) → a ≡ true → (a || b) ≡ true
or_true true b h = refl
or_true false b h = absurd (cc)

-- one attribute more, which is marked
pub spread_marked : (nodes : List Node) → AreEarlier nodes → (old marks new : List Bool) (next : ℕ) → Spreads nodes old marks (next + 1) → get_or marks next false ≡ true → AddsMarks marks new (needs_at nodes next) → Spreads nodes old new next
spread_marked nodes e old marks new next s m adds = record {
  size = adds.size ∙ s.size;
  kept = λ a h. adds.marked a ∙ or_true (get_or marks a false) (is_in a (needs_at nodes next)) (s.kept a h);
  sound = λ wanted w same a h. from_either wanted w same a (in_cases (get_or marks a false) (is_in a (needs_at nodes next)) (sym (adds.marked a) ∙ h));
  closed = λ a above h b need.
      closed_at a b (in_cases (get_or marks a false) (is_in a (needs_at nodes next)) (sym (adds.marked a) ∙ h)) above need (cases_le next a above);
}
  where
    from_either : (wanted : List ℕ) → All (λ a. a < length nodes) wanted → ((a : ℕ) → get_or old a false ≡ is_in a wanted) → (a : ℕ) → (get_or marks a false ≡ true) ⊎ (is_in a (needs_at nodes next) ≡ true) → is_in a (walks nodes wanted) ≡ true
    from_either wanted w same a (inl k) = s.sound wanted w same a k
    from_either wanted w same a (inr k) = walks_closed nodes e wanted w next a (s.sound wanted w same next m) k

    cases_le : (n a : ℕ) → n ≤ a → (a ≡ n) ⊎ (n + 1 ≤ a)
    cases_le n a h = grind arith

    closed_at : (a b : ℕ) → (get_or marks a false ≡ true) ⊎ (is_in a (needs_at nodes next) ≡ true) → next ≤ a → is_in b (needs_at nodes a) ≡ true → (a ≡ next) ⊎ (next + 1 ≤ a) → get_or new b false ≡ true
    closed_at a b how above need (inl here) =
        adds.marked b ∙ in_right (get_or marks b false) (is_in b (needs_at nodes next)) (ap (λ x. is_in b (needs_at nodes x)) (sym here) ∙ need)
    closed_at a b (inl was) above need (inr later) = adds.marked b ∙ or_true (get_or marks b false) (is_in b (needs_at nodes next)) (s.closed a later was b need)
    closed_at a b (inr new_one) above need (inr later) =
        let less : a < next = all_in (λ x. x < next) (needs_at nodes next) a (e.earlier next) new_one in absurd (omega arith)

-- one attribute more, which is not
pub spread_unmarked : (nodes : List Node) (old marks : List Bool) (next : ℕ) → Spreads nodes old marks (next + 1) → get_or marks next false ≡ false → Spreads nodes old marks next
spread_unmarked nodes old marks next s m = record {
  size = s.size;
  kept = s.kept;
  sound = s.sound;
  closed = λ a above h b need. closed_at a h b need (cases_le next a above);
}
  where
    cases_le : (n a : ℕ) → n ≤ a → (a ≡ n) ⊎ (n + 1 ≤ a)
    cases_le n a h = grind arith

    closed_at : (a : ℕ) → get_or marks a false ≡ true → (b : ℕ) → is_in b (needs_at nodes a) ≡ true → (a ≡ next) ⊎ (next + 1 ≤ a) → get_or marks b false ≡ true
    closed_at a h b need (inl here) = let none : get_or marks a false ≡ false = ap (λ x. get_or marks x false) here ∙ m in absurd (cc)
    closed_at a h b need (inr later) = s.closed a later h b need

-- at the end those are marked that the walks have
pub spread_all : (nodes : List Node) (old marks : List Bool) (wanted : List ℕ) → Spreads nodes old marks 0 → All (λ a. a < length nodes) wanted → ((a : ℕ) → get_or old a false ≡ is_in a wanted) → (a : ℕ) → get_or marks a false ≡ is_in a (walks nodes wanted)
spread_all nodes old marks wanted s w same a =
    same_answer (get_or marks a false) (is_in a (walks nodes wanted)) (s.sound wanted w same a)
    (λ h. let p = piece_with (walk (length nodes) nodes) wanted a h in
    walk_marked nodes marks (λ x m b need. s.closed x (omega arith) m b need) (length nodes) p.0 a (s.kept p.0 (same p.0 ∙ p.1)) p.2)

-- the name of the attribute at a place
pub named_at : (attrs : List Attr) (i : ℕ) (x : Attr) → i < length attrs → x ≡ get_or attrs i x → attr_name attrs i ≡ x.name
named_at [] i x h e = absurd (omega arith)
named_at (y ∷ ys) zero x h e = ap (λ (z : Attr). z.name) (sym e)
named_at (y ∷ ys) (suc i) x h e = named_at ys i x (omega arith) e

-- the same numbers, below a length that is the same
pub all_size : (a b : List Bool) (xs ys : List ℕ) → length b ≡ length a → xs ≡ ys → All (λ x. x < length a) ys → All (λ x. x < length b) xs
all_size a b xs ys size e h = subst (λ (n : ℕ). All (λ x. x < n) xs) (sym size) (subst (λ (zs : List ℕ). All (λ x. x < length a) zs) (sym e) h)

pub adds_to : (a b : List Bool) (xs ys : List ℕ) → xs ≡ ys → AddsMarks a b xs → AddsMarks a b ys
adds_to a b xs ys e h = subst (λ (zs : List ℕ). AddsMarks a b zs) e h

-- the attributes that one needs
pub needs_are : (attrs : List Attr) (i : ℕ) (x : Attr) → i < length attrs → x ≡ get_or attrs i x → needs_at (nodes_of attrs) i ≡ x.needs
needs_are [] i x h e = absurd (omega arith)
needs_are (y ∷ ys) zero x h e = ap (λ (z : Attr). z.needs) (sym e)
needs_are (y ∷ ys) (suc i) x h e = needs_are ys i x (omega arith) e

pub nodes_length : (attrs : List Attr) → length (nodes_of attrs) ≡ length attrs
nodes_length [] = refl
nodes_length (x ∷ xs) = let h = nodes_length xs in omega (arith, h)

pub needs_below : (attrs : List Attr) (i n : ℕ) (x : Attr) (xs : List ℕ) → AreEarlier (nodes_of attrs) → i < length attrs → i ≤ n → x ≡ get_or attrs i x → xs ≡ x.needs → All (λ a. a < n) xs
needs_below attrs i n x xs e h k is same =
    All-weaker (λ a. a < i) (λ a. a < n) (λ a l. omega arith) xs (subst (λ (ys : List ℕ). All (λ a. a < i) ys) (needs_are attrs i x h is ∙ sym same) (e.earlier i))

-- marks that were not there, with some that were added
pub only_added : (a b : List Bool) (xs : List ℕ) → ((x : ℕ) → get_or a x false ≡ false) → AddsMarks a b xs → (x : ℕ) → get_or b x false ≡ is_in x xs
only_added a b xs none h x = h.marked x ∙ ap (λ v. v || is_in x xs) (none x)

pub none_marked : (n x : ℕ) → get_or (replicate n false) x false ≡ false
none_marked n x = by (cases_lt x n)
  where
    by : (x < n) ⊎ (n ≤ x) → get_or (replicate n false) x false ≡ false
    by (inl h) = get_or-replicate n x false false h
    by (inr h) = get_or_past (replicate n false) x false (omega (arith, length-replicate n false))

-- a slice that was written as a whole
pub whole_slice : (n : ℕ) (new old : List Bool) → length new ≡ length old → length new ≡ n → take n (new ++ drop (length new) old) ≡ new
whole_slice n new old same size =
    ap (λ xs. take n (new ++ xs)) (drop_all (length new) old (omega arith)) ∙ ap (take n) (append-nil new) ∙ take_all n new (omega arith)
