-- One more element of a list that is filled in a loop, and the elements of a list that is put together.
use Rattle.std.proofs.Common.{◌≡◌, ℕ, ◌+◌, ◌-◌, ◌<◌, ◌≤◌, zero, suc, arith, Bool, true, false, cond, subst, Option, Some, None, List, [], ◌∷◌, ◌++◌, length, get_or, take, map, refl, ap, sym, ◌∙◌, append_assoc}
use Rattle.std.specs.Prelude.{find, flat_map, slice_get, option_map}
use Rattle.std.specs.Option.{option_to_list}
use Rattle.std.specs.List.{All, filter_map, enumerate_from}
use Rattle.std.proofs.lemmas.List.{length-take-le, take_more, map_more, flat_map_more}
use Rattle.std.proofs.lemmas.List.Elements.{filter_map-append}
use Rattle.std.proofs.lemmas.Option.{get_or_from_slice_get, slice_get_within}

filter_map_one : {X Y : Type 0} (o : Option Y) (h : X → Option Y) (x : X) → h x ≡ o → filter_map h (x ∷ []) ≡ option_to_list o
filter_map_one None h x e = rw e refl
filter_map_one (Some y) h x e = rw e refl

-- what is kept of one more element
pub filter_map_more : {X Y : Type 0} (h : X → Option Y) (xs : List X) (i : ℕ) (d : X) → i < length xs → filter_map h (take (i + 1) xs) ≡ filter_map h (take i xs) ++ option_to_list (h (get_or xs i d))
filter_map_more h xs i d p =
    ap (filter_map h) (take_more xs i d p) ∙ filter_map-append h (take i xs) (get_or xs i d ∷ [])
    ∙ ap (λ ys. filter_map h (take i xs) ++ ys) (filter_map_one (h (get_or xs i d)) h (get_or xs i d) refl)

pub filter_map_step : {X Y : Type 0} (h : X → Option Y) (xs : List X) (i : ℕ) (x : X) (ys zs : List Y) → i < length xs → x ≡ get_or xs i x → ys ≡ filter_map h (take i xs) → zs ≡ ys ++ option_to_list (h x) → zs ≡ filter_map h (take (i + 1) xs)
filter_map_step h xs i x ys zs p is so_far new =
    new ∙ ap (λ ws. ws ++ option_to_list (h x)) so_far ∙ ap (λ y. filter_map h (take i xs) ++ option_to_list (h y)) is ∙ sym (filter_map_more h xs i x p)

pub map_step : {X Y : Type 0} (f : X → Y) (xs : List X) (i : ℕ) (d : X) (first ys zs : List Y) → i < length xs → ys ≡ first ++ map f (take i xs) → zs ≡ ys ++ f (get_or xs i d) ∷ [] → zs ≡ first ++ map f (take (i + 1) xs)
map_step f xs i d first ys zs p so_far new =
    new ∙ ap (λ ws. ws ++ f (get_or xs i d) ∷ []) so_far ∙ append_assoc first (map f (take i xs)) (f (get_or xs i d) ∷ []) ∙ ap (λ ws. first ++ ws) (sym (map_more f xs i d p))

-- the pieces of one more element
pub flat_map_step : {X Y : Type 0} (f : X → List Y) (xs : List X) (i : ℕ) (d : X) (first ys zs : List Y) → i < length xs → ys ≡ first ++ flat_map f (take i xs) → zs ≡ ys ++ f (get_or xs i d) → zs ≡ first ++ flat_map f (take (i + 1) xs)
flat_map_step f xs i d first ys zs p so_far new =
    new ∙ ap (λ ws. ws ++ f (get_or xs i d)) so_far ∙ flat_map_more f first (take i xs) (get_or xs i d) ∙ ap (λ ws. first ++ flat_map f ws) (sym (take_more xs i d p))

pub slice_get_next : {X : Type 0} (x : X) (xs : List X) (n : ℕ) → ¬ (n ≡ 0) → slice_get (x ∷ xs) n ≡ slice_get xs (n - 1)
slice_get_next x xs zero h = absurd (h refl)
slice_get_next x xs (suc n) h = ap (slice_get xs) (omega arith)

pub slice_get-append_front : {X : Type 0} (xs ys : List X) (n : ℕ) → n < length xs → slice_get (xs ++ ys) n ≡ slice_get xs n
slice_get-append_front [] ys n h = absurd (omega arith)
slice_get-append_front (x ∷ xs) ys zero h = refl
slice_get-append_front (x ∷ xs) ys (suc n) h = slice_get-append_front xs ys n (omega arith)

pub slice_get-append_back : {X : Type 0} (xs ys : List X) (n : ℕ) → length xs ≤ n → slice_get (xs ++ ys) n ≡ slice_get ys (n - length xs)
slice_get-append_back [] ys n h = ap (slice_get ys) (omega arith)
slice_get-append_back (x ∷ xs) ys zero h = absurd (omega arith)
slice_get-append_back (x ∷ xs) ys (suc n) h = slice_get-append_back xs ys n (omega arith) ∙ ap (slice_get ys) (omega arith)

-- an element with its place, counted from k
pub slice_get-enumerate : {X : Type 0} (k : ℕ) (xs : List X) (n : ℕ) → slice_get (enumerate_from k xs) n ≡ option_map (λ x. (k + n, x)) (slice_get xs n)
slice_get-enumerate k [] n = refl
slice_get-enumerate k (x ∷ xs) zero = let e : k ≡ k + 0 = omega arith in ap (λ j. Some (j, x)) e
slice_get-enumerate k (x ∷ xs) (suc n) =
    let e : k + 1 + n ≡ k + suc n = omega arith in slice_get-enumerate (k + 1) xs n ∙ ap (λ j. option_map (λ y. (j, y)) (slice_get xs n)) e

enumerate-append : {X : Type 0} (k : ℕ) (xs : List X) (y : X) → enumerate_from k (xs ++ y ∷ []) ≡ enumerate_from k xs ++ (k + length xs, y) ∷ []
enumerate-append k [] y = let e : k ≡ k + 0 = omega arith in ap (λ j. (j, y) ∷ []) e
enumerate-append k (x ∷ xs) y =
    let e : k + 1 + length xs ≡ k + length (x ∷ xs) = omega arith in
    ap (λ zs. (k, x) ∷ zs) (enumerate-append (k + 1) xs y ∙ ap (λ j. enumerate_from (k + 1) xs ++ (j, y) ∷ []) e)

-- one more element with its place
pub enumerate_more : {X : Type 0} (xs : List X) (i : ℕ) (d : X) → i < length xs → enumerate_from 0 (take (i + 1) xs) ≡ enumerate_from 0 (take i xs) ++ (i, get_or xs i d) ∷ []
enumerate_more xs i d p =
    let e : 0 + length (take i xs) ≡ i = omega (arith, length-take-le i xs (omega arith)) in
    ap (enumerate_from 0) (take_more xs i d p) ∙ enumerate-append 0 (take i xs) (get_or xs i d)
    ∙ ap (λ j. enumerate_from 0 (take i xs) ++ (j, get_or xs i d) ∷ []) e

-- ---- what stands in a list

-- the element at a place within the list
pub slice_get_some : {X : Type 0} (xs : List X) (i : ℕ) → i < length xs → (x : X) × (slice_get xs i ≡ Some x)
slice_get_some [] i h = absurd (omega arith)
slice_get_some (x ∷ xs) zero h = (x, refl)
slice_get_some (x ∷ xs) (suc i) h = slice_get_some xs i (omega arith)

-- what holds of all holds of the element at a place
pub all_at : {X : Type 0} (P : X → Type 0) (xs : List X) (i : ℕ) (x : X) → All P xs → slice_get xs i ≡ Some x → P x
all_at P xs i x h at = subst P (get_or_from_slice_get xs i x x at) (h i x (slice_get_within xs i x at))

-- numbers below a bound are below a greater one
pub all_below_more : (xs : List ℕ) (n m : ℕ) → n ≤ m → All (λ k. k < n) xs → All (λ k. k < m) xs
all_below_more xs n m h below k x p = let q : get_or xs k x < n = below k x p in omega arith

-- what is found passes
pub found_passes : {X : Type 0} (p : X → Bool) (xs : List X) (y : X) → find p xs ≡ Some y → p y ≡ true
found_passes p [] y h = absurd (cc)
found_passes {X} p (x ∷ xs) y h = one (p x) refl h (found_passes p xs y)
  where
    one : (b : Bool) → p x ≡ b → cond b (Some x) (find p xs) ≡ Some y → (find p xs ≡ Some y → p y ≡ true) → p y ≡ true
    one true e k later = let same : x ≡ y = cc in ap p (sym same) ∙ e
    one false e k later = later k
