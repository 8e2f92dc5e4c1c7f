-- Which entry a line of several sections tells of.
use Rattle.std.proofs.Common.{◌≡◌, ℕ, ◌+◌, ◌-◌, ◌<◌, ◌≤◌, ◌⊎◌, inl, inr, Option, Some, None, List, [], ◌∷◌, ◌++◌, length, get_or, map, take, drop, refl, ap, sym, ◌∙◌, arith, append_assoc, append-nil, length-append}
use Rattle.std.specs.Prelude.{slice_get, option_map}
use Rattle.std.proofs.lemmas.Option.{slice_get_past, slice_get_read}
use Rattle.std.proofs.lemmas.List.{get_or-drop, get_or-take, length-drop, length-map, length-take}
use Rattle.std.proofs.lemmas.Bool.{cases_lt}
use Rattle.std.proofs.lemmas.Option.{slice_get_within}
use Rattle.std.proofs.lemmas.Option.{slice_get-map}
use Rattle.std.specs.List.{enumerate_from}
use Rattle.std.proofs.lemmas.List.FromFn.{length-enumerate_from}
use Rattle.cf_types.proofs.ListLemmas.{slice_get-append_front, slice_get-append_back, slice_get-enumerate}
use Rattle.config_rules.specs.Listing.{spaced}

spaced-append : {X : Type 0} (g : X → List ℕ) (xs : List X) (x : X) → spaced (map g (xs ++ x ∷ [])) ≡ spaced (map g xs) ++ (32 ∷ g x)
spaced-append g [] x = ap (λ ws. 32 ∷ ws) (append-nil (g x))
spaced-append g (y ∷ xs) x = ap (λ ws. 32 ∷ (g y ++ ws)) (spaced-append g xs x) ∙ ap (λ ws. 32 ∷ ws) (sym (append_assoc (g y) (spaced (map g xs)) (32 ∷ g x)))

-- one more word
pub spaced_step : {X : Type 0} (g : X → List ℕ) (xs more : List X) (x : X) (first ys zs : List ℕ) → more ≡ xs ++ x ∷ [] → ys ≡ first ++ spaced (map g xs) → zs ≡ ys ++ (32 ∷ g x) → zs ≡ first ++ spaced (map g more)
spaced_step g xs more x first ys zs is so_far new =
    new ∙ ap (λ ws. ws ++ (32 ∷ g x)) so_far ∙ append_assoc first (spaced (map g xs)) (32 ∷ g x)
    ∙ ap (λ ws. first ++ ws) (sym (ap (λ ws. spaced (map g ws)) is ∙ spaced-append g xs x))

-- a line of the first section is that line of both
pub in_first : {X : Type 0} (xs ys : List X) (n : ℕ) (x : X) → slice_get xs n ≡ Some x → slice_get (xs ++ ys) n ≡ Some x
in_first xs ys n x e = slice_get-append_front xs ys n (slice_get_within xs n x e) ∙ e

-- a line past the first section is one of the second
pub in_second : {X : Type 0} (xs ys : List X) (n m : ℕ) (o : Option X) → n ≡ length xs + m → slice_get ys m ≡ o → slice_get (xs ++ ys) n ≡ o
in_second xs ys n m o e h =
    let p : length xs ≤ n = omega (arith, e) in
    let d : n - length xs ≡ m = omega (arith, e) in
    slice_get-append_back xs ys n p ∙ ap (slice_get ys) d ∙ h

-- the line of the entry at a place
pub line_of : {X : Type 0} (f : X → List ℕ) (xs : List X) (n : ℕ) (x : X) → slice_get xs n ≡ Some x → slice_get (map f xs) n ≡ Some (f x)
line_of f xs n x e = slice_get-map f xs n ∙ ap (option_map f) e

-- the same where the line tells the entry's place
pub numbered_line_of : {X : Type 0} (f : ℕ × X → List ℕ) (xs : List X) (n : ℕ) (x : X) → slice_get xs n ≡ Some x → slice_get (map f (enumerate_from 0 xs)) n ≡ Some (f (n, x))
numbered_line_of f xs n x e =
    let z : 0 + n ≡ n = omega arith in
    line_of f (enumerate_from 0 xs) n (n, x) (slice_get-enumerate 0 xs n ∙ ap (option_map (λ y. (0 + n, y))) e ∙ ap (λ j. Some (j, x)) z)

-- the line of the first of some entries from a place on
pub line_from : {X : Type 0} (f : X → List ℕ) (xs found : List X) (n : ℕ) (x : X) → found ≡ take (length found) (drop n xs) → 1 ≤ length found → x ≡ get_or found 0 x → slice_get (map f xs) n ≡ Some (f x)
line_from f xs found n x is some first =
    let inside : n < length xs = omega (arith, some, ap length is, length-take (length found) (drop n xs), length-drop n xs) in
    let here : x ≡ get_or xs n x =
    first ∙ ap (λ ys. get_or ys 0 x) is ∙ get_or-take (length found) (drop n xs) 0 x (omega arith) ∙ get_or-drop n xs 0 x ∙ ap (λ m. get_or xs m x) (omega arith) in
    line_of f xs n x (slice_get_read xs (length xs) n x refl inside here)

-- the entry read at a place of a copy of the list
pub read_at : {X : Type 0} (xs ys : List X) (n : ℕ) (x : X) → ys ≡ xs → n < length ys → x ≡ get_or ys n x → slice_get xs n ≡ Some x
read_at xs ys n x e p is =
    let p' : n < length xs = omega (arith, p, ap length e) in
    slice_get_read xs (length xs) n x refl p' (is ∙ ap (λ zs. get_or zs n x) e)

-- past the last entry there is no line
pub no_line : {X : Type 0} (f : X → List ℕ) (xs ys : List X) (n : ℕ) → ys ≡ xs → length ys ≤ n → slice_get (map f xs) n ≡ None
no_line f xs ys n e h = slice_get_past (map f xs) n (omega (arith, h, ap length e, length-map xs f))

-- a place past a list, by the count of its entries
pub past_by : {X : Type 0} (xs ys : List X) (n k : ℕ) → ys ≡ xs → length ys ≤ n → k ≡ length xs → n ≡ length xs + (n - k)
past_by xs ys n k e h d = omega (arith, h, d, ap length e)

past_from_by : {X : Type 0} (xs found : List X) (n k : ℕ) → (n < length xs → 1 ≤ length found) → length found < 1 → k ≡ length xs → ((n < length xs) ⊎ (length xs ≤ n)) → n ≡ length xs + (n - k)
past_from_by xs found n k some none d (inl p) = let h : 1 ≤ length found = some p in absurd (omega (arith, h, none))
past_from_by xs found n k some none d (inr p) = omega (arith, p, d)

pub past_from : {X : Type 0} (xs found : List X) (n k : ℕ) → (n < length xs → 1 ≤ length found) → length found < 1 → k ≡ length xs → n ≡ length xs + (n - k)
past_from xs found n k some none d = past_from_by xs found n k some none d (cases_lt n (length xs))

-- how many lines sections have
pub count_lines : {X : Type 0} (f : X → List ℕ) (xs : List X) (n m : ℕ) → n ≡ length xs + m → n ≡ length (map f xs) + m
count_lines f xs n m e = omega (arith, e, length-map xs f)

pub count_numbered : {X : Type 0} (f : ℕ × X → List ℕ) (xs : List X) (n m : ℕ) → n ≡ length xs + m → n ≡ length (map f (enumerate_from 0 xs)) + m
count_numbered f xs n m e = omega (arith, e, length-map (enumerate_from 0 xs) f, length-enumerate_from 0 xs)

pub count_both : {X : Type 0} (xs ys : List X) (n m k : ℕ) → n ≡ length xs + m → m ≡ length ys + k → n ≡ length (xs ++ ys) + k
count_both xs ys n m k e d = omega (arith, e, d, length-append xs ys)
