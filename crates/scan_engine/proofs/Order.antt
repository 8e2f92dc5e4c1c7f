-- Lists of which each element stands in a relation to all later ones.
use Rattle.std.proofs.Common.{◌≡◌, ℕ, zero, suc, ◌+◌, ◌<◌, ◌≤◌, Bool, true, false, List, [], ◌∷◌, ◌++◌, length, map, filter, cond, refl, arith}
use Rattle.std.specs.Prelude.{flat_map}
use Rattle.std.specs.List.{AllByRecursion, enumerate_from}
use Rattle.run_rules.proofs.Each.{all_append, all_map, all_below}
use Rattle.cf_types.specs.Numbers.{below}
use Rattle.run_rules.specs.Sound.{EachLater}

-- ---- of each element

pub all_weaken : {A : Type 0} (P Q : A → Type 0) (xs : List A) → ((x : A) → P x → Q x) → AllByRecursion P xs → AllByRecursion Q xs
all_weaken P Q [] f h = tt
all_weaken P Q (x ∷ xs) f h = (f x h.0, all_weaken P Q xs f h.1)

pub all_of : {A : Type 0} (P : A → Type 0) (xs : List A) → ((x : A) → P x) → AllByRecursion P xs
all_of P [] f = tt
all_of P (x ∷ xs) f = (f x, all_of P xs f)

-- what passes a test has what all have, and passes it
pub all_filter : {A : Type 0} (P : A → Type 0) (p : A → Bool) (xs : List A) → AllByRecursion P xs → AllByRecursion (λ x. P x × (p x ≡ true)) (filter p xs)
all_filter P p [] h = tt
all_filter P p (x ∷ xs) h = keep (p x) refl (all_filter P p xs h.1)
  where
    keep : (b : Bool) → p x ≡ b → AllByRecursion (λ y. P y × (p y ≡ true)) (filter p xs) → AllByRecursion (λ y. P y × (p y ≡ true)) (cond b (x ∷ filter p xs) (filter p xs))
    keep true e more = ((h.0, e), more)
    keep false e more = more

pub all_flat : {A B : Type 0} (P : B → Type 0) (f : A → List B) (xs : List A) → AllByRecursion (λ x. AllByRecursion P (f x)) xs → AllByRecursion P (flat_map f xs)
all_flat P f [] h = tt
all_flat P f (x ∷ xs) h = all_append P (f x) (flat_map f xs) h.0 (all_flat P f xs h.1)

pub all_enumerated : {A : Type 0} (n : ℕ) (xs : List A) → AllByRecursion (λ e. (n ≤ e.0) × (e.0 < n + length xs)) (enumerate_from n xs)
all_enumerated n [] = tt
all_enumerated n (x ∷ xs) = (
  (omega arith, omega arith),
  all_weaken (λ e. (n + 1 ≤ e.0) × (e.0 < n + 1 + length xs)) (λ e. (n ≤ e.0) × (e.0 < n + length (x ∷ xs))) (enumerate_from (n + 1) xs) (λ e both. (omega (arith, both.0), omega (arith, both.1)))
      (all_enumerated (n + 1) xs),
)

-- ---- of each element and a later one

pub later_map : {A B : Type 0} (R : B → B → Type 0) (f : A → B) (xs : List A) → EachLater (λ x y. R (f x) (f y)) xs → EachLater R (map f xs)
later_map R f [] h = tt
later_map R f (x ∷ xs) h = (all_map (R (f x)) f xs h.0, later_map R f xs h.1)

pub later_weaken : {A : Type 0} (R S : A → A → Type 0) (xs : List A) → ((x y : A) → R x y → S x y) → EachLater R xs → EachLater S xs
later_weaken R S [] f h = tt
later_weaken R S (x ∷ xs) f h = (all_weaken (R x) (S x) xs (f x) h.0, later_weaken R S xs f h.1)

pub later_append : {A : Type 0} (R : A → A → Type 0) (xs ys : List A) → EachLater R xs → EachLater R ys → AllByRecursion (λ x. AllByRecursion (R x) ys) xs → EachLater R (xs ++ ys)
later_append R [] ys h k across = k
later_append R (x ∷ xs) ys h k across = (all_append (R x) xs ys h.0 across.0, later_append R xs ys h.1 k across.1)

-- each of one list stands so to each of all the others
all_across : {A B : Type 0} (R : B → B → Type 0) (f : A → List B) (zs : List B) (ys : List A) → AllByRecursion (λ y. AllByRecursion (λ a. AllByRecursion (R a) (f y)) zs) ys
    → AllByRecursion (λ a. AllByRecursion (R a) (flat_map f ys)) zs
all_across R f [] ys h = tt
all_across R f (z ∷ zs) ys h = (
  all_flat (R z) f ys (all_weaken (λ y. AllByRecursion (λ a. AllByRecursion (R a) (f y)) (z ∷ zs)) (λ y. AllByRecursion (R z) (f y)) ys (λ y both. both.0) h),
  all_across R f zs ys (all_weaken (λ y. AllByRecursion (λ a. AllByRecursion (R a) (f y)) (z ∷ zs)) (λ y. AllByRecursion (λ a. AllByRecursion (R a) (f y)) zs) ys (λ y both. both.1) h),
)

-- lists one after the other, of which each stands so to all later ones
pub later_flat : {A B : Type 0} (R : B → B → Type 0) (f : A → List B) (xs : List A) → AllByRecursion (λ x. EachLater R (f x)) xs
    → EachLater (λ x y. AllByRecursion (λ a. AllByRecursion (R a) (f y)) (f x)) xs → EachLater R (flat_map f xs)
later_flat R f [] h across = tt
later_flat R f (x ∷ xs) h across =
    later_append R (f x) (flat_map f xs) h.0 (later_flat R f xs h.1 across.1) (all_across R f (f x) xs across.0)

pub later_below : (n : ℕ) → EachLater (λ a b. a < b) (below n)
later_below zero = tt
later_below (suc n) =
    later_append (λ a b. a < b) (below n) (n ∷ []) (later_below n) (tt, tt) (all_weaken (λ k. k < n) (λ k. AllByRecursion (λ b. k < b) (n ∷ [])) (below n) (λ k lt. (lt, tt)) (all_below n))

pub later_enumerated : {A : Type 0} (n : ℕ) (xs : List A) → EachLater (λ a b. a.0 < b.0) (enumerate_from n xs)
later_enumerated n [] = tt
later_enumerated n (x ∷ xs) =
    (all_weaken (λ e. (n + 1 ≤ e.0) × (e.0 < n + 1 + length xs)) (λ e. n < e.0) (enumerate_from (n + 1) xs) (λ e both. omega (arith, both.0)) (all_enumerated (n + 1) xs), later_enumerated (n + 1) xs)
