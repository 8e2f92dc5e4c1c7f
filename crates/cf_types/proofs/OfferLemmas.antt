-- Laws of first appearances and of walks along the attributes that attributes name.
use Rattle.std.proofs.Common.{◌≡◌, ℕ, ◌-◌, ◌<◌, ◌≤◌, zero, suc, Bool, true, false, cond, ◌||◌, Some, List, [], ◌∷◌, ◌++◌, length, refl, ap, sym, ◌∙◌, append_assoc, append-nil, length-append, arith, inl, inr, ◌⊎◌, subst}
use Rattle.std.specs.Prelude.{filter, flat_map, slice_get, not, ◌==◌}
use Rattle.std.specs.List.{All}
use Rattle.std.specs.Option.{option_map_or}
use Rattle.std.proofs.lemmas.List.Elements.{filter-append, All-head, All-tail}
use Rattle.std.proofs.lemmas.Bool.{eqb-true}
use Rattle.std.proofs.lemmas.Option.{slice_get_past}
use Rattle.std.proofs.lemmas.Map.Views.{any-filter_same}
use Rattle.cf_types.proofs.TestLemmas.{equal_itself, equal_turned}
use Rattle.cf_types.specs.Gather.{is_in, with_new, with_all}
use Rattle.cf_types.specs.Offers.{Node, AreEarlier, itself, needs_at, is_interface_node, walk, walks, firsts, interfaces_of}
use Rattle.cf_types.proofs.ListLemmas.{slice_get-append_front, slice_get-append_back}

-- ---- first appearances

pub with_all-append : (xs ys zs : List ℕ) → with_all xs (ys ++ zs) ≡ with_all (with_all xs ys) zs
with_all-append xs [] zs = refl
with_all-append xs (y ∷ ys) zs = with_all-append (with_new xs y) ys zs

or_step : (a b c d : Bool) → d ≡ (b || c) → (a || d) ≡ ((a || b) || c)
or_step true b c d e = refl
or_step false b c d e = e

pub is_in-append : (x : ℕ) (xs ys : List ℕ) → is_in x (xs ++ ys) ≡ (is_in x xs || is_in x ys)
is_in-append x [] ys = refl
is_in-append x (z ∷ xs) ys = or_step (z == x) (is_in x xs) (is_in x ys) (is_in x (xs ++ ys)) (is_in-append x xs ys)

in_either : (b : Bool) (x y : ℕ) (xs : List ℕ) → is_in x xs ≡ true → is_in x (cond b xs (xs ++ y ∷ [])) ≡ true
in_either true x y xs h = h
in_either false x y xs h = is_in-append x xs (y ∷ []) ∙ ap (λ v. v || is_in x (y ∷ [])) h

in_with_new : (x y : ℕ) (xs : List ℕ) → is_in x xs ≡ true → is_in x (with_new xs y) ≡ true
in_with_new x y xs h = in_either (is_in y xs) x y xs h

with_known_if : (b : Bool) (x : ℕ) (xs : List ℕ) → b ≡ true → cond b xs (xs ++ x ∷ []) ≡ xs
with_known_if b x xs e = rw e refl

left_out_if : (b : Bool) (y w : ℕ) (zs ws : List ℕ) → (w == y) ≡ b → is_in y zs ≡ true → ((vs : List ℕ) → is_in y vs ≡ true → with_all vs (filter (λ v. not (v == y)) ws) ≡ with_all vs ws) → with_all zs (cond (not b) (w ∷ filter (λ v. not (v == y)) ws) (filter (λ v. not (v == y)) ws)) ≡ with_all (with_new zs w) ws
left_out_if true y w zs ws e h ih =
    ih zs h ∙ ap (λ vs. with_all vs ws) (sym (with_known_if (is_in w zs) w zs (ap (λ x. is_in x zs) (eqb-true w y e) ∙ h)))
left_out_if false y w zs ws e h ih = ih (with_new zs w) (in_with_new y w zs h)

-- a number that is there can be left out of what comes
known_left_out : (y : ℕ) (zs ws : List ℕ) → is_in y zs ≡ true → with_all zs (filter (λ v. not (v == y)) ws) ≡ with_all zs ws
known_left_out y zs [] h = refl
known_left_out y zs (w ∷ ws) h = left_out_if (w == y) y w zs ws refl h (λ vs k. known_left_out y vs ws k)

itself_if : (b : Bool) (y : ℕ) (zs : List ℕ) → is_in y zs ≡ b → is_in y (cond b zs (zs ++ y ∷ [])) ≡ true
itself_if true y zs e = e
itself_if false y zs e = is_in-append y zs (y ∷ []) ∙ ap (λ v. v || is_in y (y ∷ [])) e ∙ ap (λ v. v || false) (equal_itself y)

in_with_itself : (y : ℕ) (zs : List ℕ) → is_in y (with_new zs y) ≡ true
in_with_itself y zs = itself_if (is_in y zs) y zs refl

-- first appearances alone add the same
pub with_all-firsts : (zs ys : List ℕ) → with_all zs (firsts ys) ≡ with_all zs ys
unfolding firsts
with_all-firsts zs [] = refl
with_all-firsts zs (y ∷ ys) =
    known_left_out y (with_new zs y) (firsts ys) (in_with_itself y zs) ∙ with_all-firsts (with_new zs y) ys

-- and so do the pieces of a list, each cut down to its first appearances
pub with_all-pieces : {X : Type 0} (f : X → List ℕ) (zs : List ℕ) (xs : List X) → with_all zs (flat_map (λ x. firsts (f x)) xs) ≡ with_all zs (flat_map f xs)
with_all-pieces f zs [] = refl
with_all-pieces f zs (x ∷ xs) =
    with_all-append zs (firsts (f x)) (flat_map (λ y. firsts (f y)) xs)
    ∙ ap (λ vs. with_all vs (flat_map (λ y. firsts (f y)) xs)) (with_all-firsts zs (f x))
    ∙ with_all-pieces f (with_all zs (f x)) xs
    ∙ sym (with_all-append zs (f x) (flat_map f xs))

pub keeps_new : (p : ℕ → Bool) (a b : Bool) (y : ℕ) → p y ≡ not a → filter p (cond b [] (y ∷ [])) ≡ cond (a || b) [] (y ∷ [])
keeps_new p true true y e = refl
keeps_new p true false y e = rw e refl
keeps_new p false true y e = refl
keeps_new p false false y e = rw e refl

-- the first appearances of a list with one more number
firsts-append : (xs : List ℕ) (y : ℕ) → firsts (xs ++ y ∷ []) ≡ firsts xs ++ cond (is_in y xs) [] (y ∷ [])
unfolding firsts
firsts-append [] y = refl
firsts-append (x ∷ xs) y =
    ap (λ zs. x ∷ zs)
    (ap (filter (λ z. not (z == x))) (firsts-append xs y)
    ∙ filter-append (λ z. not (z == x)) (firsts xs) (cond (is_in y xs) [] (y ∷ []))
    ∙ ap (λ zs. filter (λ z. not (z == x)) (firsts xs) ++ zs) (keeps_new (λ z. not (z == x)) (x == y) (is_in y xs) y (ap not (equal_turned y x))))

in_firsts_if : (b : Bool) (x y : ℕ) (xs : List ℕ) → (x == y) ≡ b → is_in y (firsts xs) ≡ is_in y xs → (b || is_in y (filter (λ z. not (z == x)) (firsts xs))) ≡ (b || is_in y xs)
in_firsts_if true x y xs e h = refl
in_firsts_if false x y xs e h =
    any-filter_same (λ z. z == y) (λ z. not (z == x)) true (λ k t. ap (λ v. not (v == x)) (eqb-true k y t) ∙ ap not (equal_turned y x ∙ e)) (firsts xs) ∙ h

-- what is looked for is among the first appearances exactly where it is in the list
pub is_in-firsts : (y : ℕ) (xs : List ℕ) → is_in y (firsts xs) ≡ is_in y xs
unfolding firsts
is_in-firsts y [] = refl
is_in-firsts y (x ∷ xs) = in_firsts_if (x == y) x y xs refl (is_in-firsts y xs)

new_or_not : (b : Bool) (xs : List ℕ) (y : ℕ) → cond b xs (xs ++ y ∷ []) ≡ xs ++ cond b [] (y ∷ [])
new_or_not true xs y = sym (append-nil xs)
new_or_not false xs y = refl

one_gathered : (xs : List ℕ) (y : ℕ) → with_new (firsts xs) y ≡ firsts (xs ++ y ∷ [])
one_gathered xs y =
    new_or_not (is_in y (firsts xs)) (firsts xs) y ∙ ap (λ b. firsts xs ++ cond b [] (y ∷ [])) (is_in-firsts y xs) ∙ sym (firsts-append xs y)

-- a list that is gathered without repeats has the first appearances
pub gathered_is : (xs ys : List ℕ) → with_all (firsts xs) ys ≡ firsts (xs ++ ys)
gathered_is xs [] = ap firsts (sym (append-nil xs))
gathered_is xs (y ∷ ys) =
    ap (λ zs. with_all zs ys) (one_gathered xs y) ∙ gathered_is (xs ++ y ∷ []) ys ∙ ap firsts (append_assoc xs (y ∷ []) ys)

-- ---- walks

-- the pieces of a list are the same where they are the same at each of its elements
pub same_pieces : {X Y : Type 0} (P : X → Type 0) (f g : X → List Y) (xs : List X) → All P xs → ((x : X) → P x → f x ≡ g x) → flat_map f xs ≡ flat_map g xs
same_pieces P f g [] h e = refl
same_pieces P f g (x ∷ xs) h e =
    ap (λ ys. ys ++ flat_map f xs) (e x (All-head P x xs h)) ∙ ap (λ ys. g x ++ ys) (same_pieces P f g xs (All-tail P x xs h) e)

pub filter-flat_map : {X Y : Type 0} (p : Y → Bool) (f : X → List Y) (xs : List X) → filter p (flat_map f xs) ≡ flat_map (λ x. filter p (f x)) xs
filter-flat_map p f [] = refl
filter-flat_map p f (x ∷ xs) = filter-append p (f x) (flat_map f xs) ∙ ap (λ ys. filter p (f x) ++ ys) (filter-flat_map p f xs)

-- more steps than the attribute's number don't matter
pub walk_enough : (nodes : List Node) → AreEarlier nodes → (n m a : ℕ) → a < n → a < m → walk n nodes a ≡ walk m nodes a
unfolding walk
walk_enough nodes e zero m a h k = absurd (omega arith)
walk_enough nodes e (suc n) zero a h k = absurd (omega arith)
walk_enough nodes e (suc n) (suc m) a h k =
    ap (λ xs. a ∷ xs) (same_pieces (λ b. b < a) (walk n nodes) (walk m nodes) (needs_at nodes a) (e.earlier a) (λ b p. walk_enough nodes e n m b (omega arith) (omega arith)))

needs_kept : (nodes : List Node) (x : Node) (a : ℕ) → a < length nodes → needs_at (nodes ++ x ∷ []) a ≡ needs_at nodes a
needs_kept nodes x a h = ap (λ o. option_map_or (λ y. y.needs) o []) (slice_get-append_front nodes (x ∷ []) a h)

open_kept : (nodes : List Node) (x : Node) (a : ℕ) → a < length nodes → is_interface_node (nodes ++ x ∷ []) a ≡ is_interface_node nodes a
open_kept nodes x a h = ap (λ o. option_map_or (λ y. y.iface) o false) (slice_get-append_front nodes (x ∷ []) a h)

filter_cons : (b c : Bool) (a : ℕ) (xs ys : List ℕ) → b ≡ c → xs ≡ ys → cond b (a ∷ xs) xs ≡ cond c (a ∷ ys) ys
filter_cons b c a xs ys e h = ap (λ v. cond v (a ∷ xs) xs) e ∙ ap (λ zs. cond c (a ∷ zs) zs) h

-- one more attribute doesn't change the walks of those before it
pub walk_kept : (nodes : List Node) → AreEarlier nodes → (x : Node) (n a : ℕ) → a < length nodes → filter (is_interface_node (nodes ++ x ∷ [])) (walk n (nodes ++ x ∷ []) a) ≡ filter (is_interface_node nodes) (walk n nodes a)
unfolding walk
walk_kept nodes e x zero a h = refl
walk_kept nodes e x (suc n) a h =
    filter_cons (is_interface_node (nodes ++ x ∷ []) a) (is_interface_node nodes a) a _ _ (open_kept nodes x a h)
    (filter-flat_map (is_interface_node (nodes ++ x ∷ [])) (walk n (nodes ++ x ∷ [])) (needs_at (nodes ++ x ∷ []) a)
    ∙ ap (flat_map (λ b. filter (is_interface_node (nodes ++ x ∷ [])) (walk n (nodes ++ x ∷ []) b))) (needs_kept nodes x a h)
    ∙ same_pieces (λ b. b < a) _ (λ b. filter (is_interface_node nodes) (walk n nodes b)) (needs_at nodes a) (e.earlier a) (λ b p. walk_kept nodes e x n b (omega arith))
    ∙ sym (filter-flat_map (is_interface_node nodes) (walk n nodes) (needs_at nodes a)))

-- what these attributes offer, each walk by itself
pub interfaces_by_walk : (nodes : List Node) (names : List ℕ) → interfaces_of nodes names ≡ firsts (flat_map (λ b. filter (is_interface_node nodes) (walk (length nodes) nodes b)) names)
unfolding interfaces_of
interfaces_by_walk nodes names = ap firsts (filter-flat_map (is_interface_node nodes) (walk (length nodes) nodes) names)

-- one more attribute doesn't change what those before it offer
pub interfaces_kept : (nodes : List Node) → AreEarlier nodes → (x : Node) (names : List ℕ) → All (λ b. b < length nodes) names → interfaces_of (nodes ++ x ∷ []) names ≡ interfaces_of nodes names
interfaces_kept nodes e x names h =
    let more : length nodes ≤ length (nodes ++ x ∷ []) = omega (arith, length-append nodes (x ∷ [])) in
    interfaces_by_walk (nodes ++ x ∷ []) names
    ∙ ap firsts (same_pieces (λ b. b < length nodes) _ (λ b. filter (is_interface_node nodes) (walk (length nodes) nodes b)) names h
    (λ b p. walk_kept nodes e x (length (nodes ++ x ∷ [])) b p ∙ ap (filter (is_interface_node nodes)) (walk_enough nodes e (length (nodes ++ x ∷ [])) (length nodes) b (omega arith) p)))
    ∙ sym (interfaces_by_walk nodes names)

-- what is gathered from the lists of named attributes
pub gathered_reach : (nodes : List Node) (start names : List ℕ) (reach : ℕ → List ℕ) → firsts start ≡ start → All (λ b. reach b ≡ interfaces_of nodes (b ∷ [])) names → with_all start (flat_map reach names) ≡ firsts (start ++ filter (is_interface_node nodes) (walks nodes names))
unfolding interfaces_of
gathered_reach nodes start names reach s h =
    let w : ℕ → List ℕ = λ b. filter (is_interface_node nodes) (walk (length nodes) nodes b ++ []) in
    ap (with_all start) (same_pieces (λ b. reach b ≡ interfaces_of nodes (b ∷ [])) reach (λ b. firsts (w b)) names h (λ b p. p))
    ∙ with_all-pieces w start names
    ∙ ap (with_all start) (same_pieces (λ b. b ≡ b) w (λ b. filter (is_interface_node nodes) (walk (length nodes) nodes b)) names (λ k d p. refl) (λ b p. ap (filter (is_interface_node nodes)) (append-nil (walk (length nodes) nodes b)))
    ∙ sym (filter-flat_map (is_interface_node nodes) (walk (length nodes) nodes) names))
    ∙ ap (λ xs. with_all xs (filter (is_interface_node nodes) (walks nodes names))) (sym s)
    ∙ gathered_is start (filter (is_interface_node nodes) (walks nodes names))

last_node : (nodes : List Node) (x : Node) → slice_get (nodes ++ x ∷ []) (length nodes) ≡ Some x
last_node nodes x =
    let e : length nodes - length nodes ≡ 0 = omega arith in
    slice_get-append_back nodes (x ∷ []) (length nodes) (omega arith) ∙ ap (slice_get (x ∷ [])) e

itself_first : (b : Bool) (a : ℕ) (xs : List ℕ) → cond b (a ∷ xs) xs ≡ cond b (a ∷ []) [] ++ xs
itself_first true a xs = refl
itself_first false a xs = refl

-- what a new attribute offers
pub interfaces_new : (nodes : List Node) → AreEarlier nodes → (x : Node) → All (λ b. b < length nodes) x.needs → interfaces_of (nodes ++ x ∷ []) (length nodes ∷ []) ≡ firsts (itself x (length nodes) ++ filter (is_interface_node nodes) (walks nodes x.needs))
unfolding walk
interfaces_new nodes e x h =
    let n = length nodes in
    let more : List Node = nodes ++ x ∷ [] in
    let size : length more ≡ suc n = omega (arith, length-append nodes (x ∷ [])) in
    let rest = filter (is_interface_node nodes) (walks nodes x.needs) in
    let needs : needs_at more n ≡ x.needs = ap (λ o. option_map_or (λ y. y.needs) o []) (last_node nodes x) in
    let opens : is_interface_node more n ≡ x.iface = ap (λ o. option_map_or (λ y. y.iface) o false) (last_node nodes x) in
    let below : filter (is_interface_node more) (flat_map (walk n more) (needs_at more n)) ≡ rest =
    filter-flat_map (is_interface_node more) (walk n more) (needs_at more n)
    ∙ ap (flat_map (λ b. filter (is_interface_node more) (walk n more b))) needs
    ∙ same_pieces (λ b. b < n) _ (λ b. filter (is_interface_node nodes) (walk n nodes b)) x.needs h (λ b p. walk_kept nodes e x n b p)
    ∙ sym (filter-flat_map (is_interface_node nodes) (walk n nodes) x.needs) in
    interfaces_by_walk more (n ∷ [])
    ∙ ap firsts
    (append-nil (filter (is_interface_node more) (walk (length more) more n))
    ∙ ap (λ k. filter (is_interface_node more) (walk k more n)) size
    ∙ filter_cons (is_interface_node more n) x.iface n _ rest opens below
    ∙ itself_first x.iface n rest)

beyond : (nodes : List Node) (a : ℕ) → length nodes ≤ a → needs_at nodes a ≡ []
beyond nodes a h = ap (λ o. option_map_or (λ y. y.needs) o []) (slice_get_past nodes a h)

earlier_at : (nodes : List Node) (x : Node) (a : ℕ) → AreEarlier nodes → All (λ b. b < length nodes) x.needs → (a < length nodes) ⊎ ((a ≡ length nodes) ⊎ (length nodes < a)) → All (λ b. b < a) (needs_at (nodes ++ x ∷ []) a)
earlier_at nodes x a e h (inl p) = subst (λ (xs : List ℕ). All (λ b. b < a) xs) (sym (needs_kept nodes x a p)) (e.earlier a)
earlier_at nodes x a e h (inr (inl p)) =
    let needs : needs_at (nodes ++ x ∷ []) a ≡ x.needs = ap (needs_at (nodes ++ x ∷ [])) p ∙ ap (λ o. option_map_or (λ y. y.needs) o []) (last_node nodes x) in
    subst (λ (xs : List ℕ). All (λ b. b < a) xs) (sym needs) (subst (λ (n : ℕ). All (λ b. b < n) x.needs) (sym p) h)
earlier_at nodes x a e h (inr (inr p)) =
    subst (λ (xs : List ℕ). All (λ b. b < a) xs) (sym (beyond (nodes ++ x ∷ []) a (omega (arith, length-append nodes (x ∷ []))))) (λ k d q. absurd (omega arith))

pub compare_numbers : (a n : ℕ) → (a < n) ⊎ ((a ≡ n) ⊎ (n < a))
compare_numbers a n = grind arith

-- a new attribute that names those before it alone
pub earlier_more : (nodes : List Node) (x : Node) → AreEarlier nodes → All (λ b. b < length nodes) x.needs → AreEarlier (nodes ++ x ∷ [])
earlier_more nodes x e h = record { earlier = λ a. earlier_at nodes x a e h (compare_numbers a (length nodes)) }
