-- A list of which the first elements were changed already.
use Rattle.std.proofs.Common.{◌≡◌, ℕ, zero, suc, ◌+◌, ◌<◌, ◌≤◌, List, [], ◌∷◌, ◌++◌, length, get_or, take, drop, map, refl, ap, sym, ◌∙◌, add-one, arith}
use Rattle.std.specs.Prelude.{slice_set}
use Rattle.std.proofs.lemmas.List.{take_at, take_all, drop_all, append-nil}

abbrev pub half : {X : Type 0} → (X → X) → ℕ → List X → List X
half f i xs = map f (take i xs) ++ drop i xs

pub half_at : {X : Type 0} (f : X → X) (i : ℕ) (xs : List X) (d : X) → i < length xs → get_or (half f i xs) i d ≡ get_or xs i d
half_at f i [] d lt = absurd (omega arith)
half_at f zero (x ∷ xs) d lt = refl
half_at f (suc i) (x ∷ xs) d lt = half_at f i xs d (omega arith)

set_at : {X : Type 0} (f : X → X) (i : ℕ) (xs : List X) (d : X) → i < length xs → slice_set (half f i xs) i (f (get_or xs i d)) ≡ half f (suc i) xs
set_at f i [] d lt = absurd (omega arith)
set_at f zero (x ∷ xs) d lt = refl
set_at f (suc i) (x ∷ xs) d lt = ap (λ zs. f x ∷ zs) (set_at f i xs d (omega arith))

kept_at : {X : Type 0} (f : X → X) (i : ℕ) (xs : List X) (d : X) → i < length xs → f (get_or xs i d) ≡ get_or xs i d → half f i xs ≡ half f (suc i) xs
kept_at f i [] d lt e = absurd (omega arith)
kept_at f zero (x ∷ xs) d lt e = ap (λ y. y ∷ xs) (sym e)
kept_at f (suc i) (x ∷ xs) d lt e = ap (λ zs. f x ∷ zs) (kept_at f i xs d (omega arith) e)

-- one element more is changed
pub half_set : {X : Type 0} (f : X → X) (i : ℕ) (xs ys : List X) (d y : X) → i < length xs → ys ≡ half f i xs → f (get_or ys i d) ≡ y → slice_set ys i y ≡ half f (i + 1) xs
half_set f i xs ys d y lt e is =
    let here : f (get_or xs i d) ≡ y = sym (ap (λ zs. f (get_or zs i d)) e ∙ ap f (half_at f i xs d lt)) ∙ is in
    ap (λ zs. slice_set zs i y) e ∙ ap (slice_set (half f i xs) i) (sym here) ∙ set_at f i xs d lt ∙ ap (λ k. half f k xs) (sym (add-one i))

-- one element more needs no change
pub half_kept : {X : Type 0} (f : X → X) (i : ℕ) (xs ys : List X) (d : X) → i < length xs → ys ≡ half f i xs → f (get_or ys i d) ≡ get_or ys i d → ys ≡ half f (i + 1) xs
half_kept f i xs ys d lt e is =
    let at : get_or ys i d ≡ get_or xs i d = ap (λ zs. get_or zs i d) e ∙ half_at f i xs d lt in
    e ∙ kept_at f i xs d lt (sym (ap f at) ∙ is ∙ at) ∙ ap (λ k. half f k xs) (sym (add-one i))

pub half_all : {X : Type 0} (f : X → X) (i : ℕ) (xs ys : List X) → length xs ≤ i → ys ≡ half f i xs → ys ≡ map f xs
half_all f i xs ys le e = e ∙ ap (λ zs. map f zs ++ drop i xs) (take_all i xs le) ∙ ap (λ zs. map f xs ++ zs) (drop_all i xs le) ∙ append-nil (map f xs)

-- what a slice of the whole list holds when it is given back
pub given_back : {X : Type 0} (n : ℕ) (old new : List X) → length new ≡ n → take n (new ++ drop (length new) old) ≡ new
given_back n old new e = take_at new (drop (length new) old) n e
