-- Sums over lists: of equal terms, of two terms, over a part, over lists of lists, and in either order.
use Rattle.std.proofs.Common.{◌≡◌, ℕ, ◌+◌, Bool, true, false, cond, List, [], ◌∷◌, flat_map, refl, sym, ap, ◌∙◌, arith}
use Rattle.std.specs.Prelude.{filter, sum_by}
use Rattle.std.specs.List.{AllByRecursion}
use Rattle.std.proofs.lemmas.List.Concat.{flat_map-cons}
use Rattle.std.proofs.lemmas.List.Sums.{sum_by-append, sum_by-cons}

pub sum_same : {A : Type 0} (f g : A → ℕ) (xs : List A) → AllByRecursion (λ x. f x ≡ g x) xs → sum_by f xs ≡ sum_by g xs
sum_same f g [] h = refl
sum_same f g (x ∷ xs) h = omega (arith, sum_by-cons f x xs, sum_by-cons g x xs, h.0, sum_same f g xs h.1)

pub sum_zero : {A : Type 0} (f : A → ℕ) (xs : List A) → AllByRecursion (λ x. f x ≡ 0) xs → sum_by f xs ≡ 0
sum_zero f [] h = refl
sum_zero f (x ∷ xs) h = omega (arith, sum_by-cons f x xs, h.0, sum_zero f xs h.1)

pub sum_both : {A : Type 0} (f g : A → ℕ) (xs : List A) → sum_by (λ x. f x + g x) xs ≡ sum_by f xs + sum_by g xs
sum_both f g [] = omega arith
sum_both f g (x ∷ xs) = omega (arith, sum_by-cons (λ x. f x + g x) x xs, sum_by-cons f x xs, sum_by-cons g x xs, sum_both f g xs)

pub sum_part : {A : Type 0} (f : A → ℕ) (p : A → Bool) (xs : List A) → sum_by f (filter p xs) ≡ sum_by (λ x. cond (p x) (f x) 0) xs
sum_part f p [] = refl
sum_part {A} f p (x ∷ xs) = cases (p x) refl (sum_part f p xs)
  where
    cases : (b : Bool) → p x ≡ b → sum_by f (filter p xs) ≡ sum_by (λ x. cond (p x) (f x) 0) xs → sum_by f (cond b (x ∷ filter p xs) (filter p xs)) ≡ sum_by (λ x. cond (p x) (f x) 0) (x ∷ xs)
    cases true on rest = omega (arith, sum_by-cons f x (filter p xs), sum_by-cons (λ x. cond (p x) (f x) 0) x xs, ap (λ (b : Bool). cond b (f x) 0) on, rest)
    cases false off rest = omega (arith, sum_by-cons (λ x. cond (p x) (f x) 0) x xs, ap (λ (b : Bool). cond b (f x) 0) off, rest)

pub sum_lists : {A B : Type 0} (f : B → ℕ) (g : A → List B) (xs : List A) → sum_by f (flat_map g xs) ≡ sum_by (λ x. sum_by f (g x)) xs
sum_lists f g [] = refl
sum_lists f g (x ∷ xs) = ap (sum_by f) (flat_map-cons g x xs) ∙ omega (arith, sum_by-append f (g x) (flat_map g xs), sum_by-cons (λ x. sum_by f (g x)) x xs, sum_lists f g xs)

pub zeros : {A : Type 0} (xs : List A) → sum_by (λ x. 0) xs ≡ 0
zeros [] = refl
zeros (x ∷ xs) = omega (arith, sum_by-cons (λ x. 0) x xs, zeros xs)

pub sum_swap : {A B : Type 0} (f : A → B → ℕ) (xs : List A) (ys : List B) → sum_by (λ x. sum_by (f x) ys) xs ≡ sum_by (λ y. sum_by (λ x. f x y) xs) ys
sum_swap f [] ys = sym (zeros ys)
sum_swap {B = B} f (x ∷ xs) ys =
    sum_by-cons (λ x. sum_by (f x) ys) x xs ∙ ap (λ (n : ℕ). sum_by (f x) ys + n) (sum_swap f xs ys)
    ∙ sym (sum_both (f x) (λ y. sum_by (λ x. f x y) xs) ys)
    ∙ sum_same (λ y. f x y + sum_by (λ x. f x y) xs) (λ y. sum_by (λ x. f x y) (x ∷ xs)) ys (each ys)
  where
    each : (ys : List B) → AllByRecursion (λ y. f x y + sum_by (λ x. f x y) xs ≡ sum_by (λ x. f x y) (x ∷ xs)) ys
    each [] = tt
    each (y ∷ ys) = (sym (sum_by-cons (λ x. f x y) x xs), each ys)
