-- What holds of all elements of a list and of its parts, and how many elements parts have.
use Rattle.std.proofs.Common.{◌≡◌, ◌≢◌, ℕ, ◌+◌, ◌<◌, ◌≤◌, suc, zero, Bool, true, false, cond, ◌||◌, Option, Some, None, List, [], ◌∷◌, ◌++◌, length, map, refl, sym, subst, length-append, arith}
use Rattle.std.specs.Prelude.{IfSome, filter, flat_map, filter_map, ◌==◌, if◌then◌else◌}
use Rattle.std.specs.List.{All, cons_option}
use Rattle.std.proofs.lemmas.Bool.{eqb-true, eqb-false}
use Rattle.std.proofs.lemmas.List.Elements.{All-cons, All-head, All-nil, All-tail}
use Rattle.cf_types.specs.Gather.{is_in}
use Rattle.cf_types.specs.Numbers.{below}

-- ---- all elements

-- what is given of each
pub all_given : {X Y : Type 0} (P : Y → Type 0) (f : X → Option Y) (xs : List X) → All (λ x. IfSome (f x) P) xs → All P (filter_map f xs)
all_given P f [] h = All-nil P
all_given {X} {Y} P f (x ∷ xs) h = one (f x) (All-head (λ y. IfSome (f y) P) x xs h) (all_given P f xs (All-tail (λ y. IfSome (f y) P) x xs h))
  where
    one : (o : Option Y) → IfSome o P → All P (filter_map f xs) → All P (cons_option o (filter_map f xs))
    one None here rest = rest
    one (Some y) here rest = All-cons P y (filter_map f xs) here rest

-- and the other way round
pub all_givers : {X Y : Type 0} (P : Y → Type 0) (f : X → Option Y) (xs : List X) → All P (filter_map f xs) → All (λ x. IfSome (f x) P) xs
all_givers P f [] h = All-nil (λ x. IfSome (f x) P)
all_givers {X} {Y} P f (x ∷ xs) h =
    let parts = one (f x) h in
    All-cons (λ y. IfSome (f y) P) x xs parts.0 (all_givers P f xs parts.1)
  where
    one : (o : Option Y) → All P (cons_option o (filter_map f xs)) → IfSome o P × All P (filter_map f xs)
    one None rest = (tt, rest)
    one (Some y) rest = (All-head P y (filter_map f xs) rest, All-tail P y (filter_map f xs) rest)

-- both parts of a list
pub all_parts : {X : Type 0} (P : X → Type 0) (xs ys : List X) → All P (xs ++ ys) → All P xs × All P ys
all_parts P [] ys h = (All-nil P, h)
all_parts P (x ∷ xs) ys h =
    let parts = all_parts P xs ys (All-tail P x (xs ++ ys) h) in
    (All-cons P x xs (All-head P x (xs ++ ys) h) parts.0, parts.1)

-- each piece
pub all_piece : {X Y : Type 0} (P : Y → Type 0) (f : X → List Y) (xs : List X) → All P (flat_map f xs) → All (λ x. All P (f x)) xs
all_piece P f [] h = All-nil (λ x. All P (f x))
all_piece P f (x ∷ xs) h =
    let parts = all_parts P (f x) (flat_map f xs) h in
    All-cons (λ y. All P (f y)) x xs parts.0 (all_piece P f xs parts.1)

-- what holds of all that pass a test
pub all_passing : {X : Type 0} (P : X → Type 0) (p : X → Bool) (xs : List X) → All P (filter p xs) → All (λ x. p x ≡ true → P x) xs
all_passing P p [] h = All-nil (λ x. p x ≡ true → P x)
all_passing P p (x ∷ xs) h =
    let parts = one (p x) h in
    All-cons (λ y. p y ≡ true → P y) x xs parts.0 (all_passing P p xs parts.1)
  where
    one : (b : Bool) → All P (cond b (x ∷ filter p xs) (filter p xs)) → (b ≡ true → P x) × All P (filter p xs)
    one true rest = (λ e. All-head P x (filter p xs) rest, All-tail P x (filter p xs) rest)
    one false rest = (λ e. absurd (cc), rest)

-- what is shown of each element of a function's values
pub all_mapped : {X Y : Type 0} (P : Y → Type 0) (f : X → Y) (xs : List X) → All P (map f xs) → All (λ x. P (f x)) xs
all_mapped P f [] h = All-nil (λ x. P (f x))
all_mapped P f (x ∷ xs) h = All-cons (λ y. P (f y)) x xs (All-head P (f x) (map f xs) h) (all_mapped P f xs (All-tail P (f x) (map f xs) h))

-- ---- numbers

-- a number that is in a list
pub number_in : (P : ℕ → Type 0) (u : ℕ) (us : List ℕ) → is_in u us ≡ true → All P us → P u
number_in P u [] e h = absurd (cc)
number_in P u (v ∷ us) e h = one (v == u) refl e (λ k. number_in P u us k (All-tail P v us h))
  where
    one : (b : Bool) → (v == u) ≡ b → (b || is_in u us) ≡ true → (is_in u us ≡ true → P u) → P u
    one true same k later = subst P (eqb-true v u same) (All-head P v us h)
    one false same k later = later k

-- a number below a bound
pub number_below : (P : ℕ → Type 0) (n k : ℕ) → k < n → All P (below n) → P k
number_below P zero k lt h = absurd (omega arith)
number_below P (suc n) k lt h =
    let parts = all_parts P (below n) (n ∷ []) h in
    one (k == n) refl (All-head P n [] parts.1) (λ less. number_below P n k less parts.0)
  where
    one : (b : Bool) → (k == n) ≡ b → P n → (k < n → P k) → P k
    one true same here later = subst P (sym (eqb-true k n same)) here
    one false apart here later = let ne : k ≢ n = eqb-false k n apart in later (omega arith)

-- ---- how many

-- what is given is no more
pub given_few : {X Y : Type 0} (f : X → Option Y) (xs : List X) → length (filter_map f xs) ≤ length xs
given_few f [] = omega arith
given_few {X} {Y} f (x ∷ xs) = one (f x) (given_few f xs)
  where
    one : (o : Option Y) → length (filter_map f xs) ≤ length xs → length (cons_option o (filter_map f xs)) ≤ length (x ∷ xs)
    one None h = omega arith
    one (Some y) h = omega arith

-- what passes both tests is no more than what passes one
pub both_few : {X : Type 0} (p q : X → Bool) (xs : List X) → length (filter p (filter q xs)) ≤ length (filter p xs)
both_few p q [] = omega arith
both_few {X} p q (x ∷ xs) = one (q x) (p x) refl (both_few p q xs)
  where
    one : (a b : Bool) → p x ≡ b → length (filter p (filter q xs)) ≤ length (filter p xs) → length (filter p (cond a (x ∷ filter q xs) (filter q xs))) ≤ length (cond b (x ∷ filter p xs) (filter p xs))
    one true true e h = rw e (omega arith)
    one true false e h = rw e h
    one false true e h = omega arith
    one false false e h = h

-- what passes no second test
pub none_of_both : {X : Type 0} (p q : X → Bool) → ((x : X) → q x ≡ true → p x ≡ false) → (xs : List X) → filter p (filter q xs) ≡ []
none_of_both p q apart [] = refl
none_of_both {X} p q apart (x ∷ xs) = one (q x) (apart x) (none_of_both p q apart xs)
  where
    one : (a : Bool) → (a ≡ true → p x ≡ false) → filter p (filter q xs) ≡ [] → filter p (cond a (x ∷ filter q xs) (filter q xs)) ≡ []
    one true fails h = rw (fails refl) h
    one false fails h = h

-- pieces that are no longer
pub pieces_shorter : {X Y Z : Type 0} (f : X → List Y) (g : X → List Z) → ((x : X) → length (f x) ≤ length (g x)) → (xs : List X) → length (flat_map f xs) ≤ length (flat_map g xs)
pieces_shorter f g h [] = omega arith
pieces_shorter f g h (x ∷ xs) = omega (arith, length-append (f x) (flat_map f xs), length-append (g x) (flat_map g xs), h x, pieces_shorter f g h xs)

-- the pieces of one more element, each piece by a test of its own
piece_more : {K X : Type 0} (p : K → X → Bool) (x : X) (xs : List X) (ks : List K)
    → length (flat_map (λ k. filter (p k) (x ∷ xs)) ks) ≡ length (filter (λ k. p k x) ks) + length (flat_map (λ k. filter (p k) xs) ks)
piece_more p x xs [] = omega arith
piece_more {K} p x xs (k ∷ ks) = one (p k x) (piece_more p x xs ks)
  where
    one : (b : Bool) → length (flat_map (λ j. filter (p j) (x ∷ xs)) ks) ≡ length (filter (λ j. p j x) ks) + length (flat_map (λ j. filter (p j) xs) ks)
        → length (cond b (x ∷ filter (p k) xs) (filter (p k) xs) ++ flat_map (λ j. filter (p j) (x ∷ xs)) ks) ≡ length (cond b (k ∷ filter (λ j. p j x) ks) (filter (λ j. p j x) ks)) + length (filter (p k) xs ++ flat_map (λ j. filter (p j) xs) ks)
    one true h = omega (arith, length-append (x ∷ filter (p k) xs) (flat_map (λ j. filter (p j) (x ∷ xs)) ks), length-append (filter (p k) xs) (flat_map (λ j. filter (p j) xs) ks))
    one false h = omega (arith, length-append (filter (p k) xs) (flat_map (λ j. filter (p j) (x ∷ xs)) ks), length-append (filter (p k) xs) (flat_map (λ j. filter (p j) xs) ks))

nothing_passes : {K X : Type 0} (p : K → X → Bool) (ks : List K) → length (flat_map (λ k. filter (p k) []) ks) ≡ 0
nothing_passes p [] = refl
nothing_passes p (k ∷ ks) = nothing_passes p ks

-- elements that fall into one piece at most, or pass a test beside, are no more in the pieces
pub pieces_few : {K X : Type 0} (p : K → X → Bool) (q : X → Bool) (ks : List K) → ((x : X) → length (filter (λ k. p k x) ks) + (if q x then 1 else 0) ≤ 1) → (xs : List X)
    → length (flat_map (λ k. filter (p k) xs) ks) + length (filter q xs) ≤ length xs
pieces_few p q ks once [] = omega (arith, nothing_passes p ks)
pieces_few {K} {X} p q ks once (x ∷ xs) = one (q x) (once x) (piece_more p x xs ks) (pieces_few p q ks once xs)
  where
    one : (b : Bool) → length (filter (λ k. p k x) ks) + (if b then 1 else 0) ≤ 1
        → length (flat_map (λ k. filter (p k) (x ∷ xs)) ks) ≡ length (filter (λ k. p k x) ks) + length (flat_map (λ k. filter (p k) xs) ks)
        → length (flat_map (λ k. filter (p k) xs) ks) + length (filter q xs) ≤ length xs
        → length (flat_map (λ k. filter (p k) (x ∷ xs)) ks) + length (cond b (x ∷ filter q xs) (filter q xs)) ≤ length (x ∷ xs)
    one true here e h = omega arith
    one false here e h = omega arith
