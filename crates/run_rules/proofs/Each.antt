-- Lists whose elements all have a property, and lists of which each element stands so to each later one.
use Rattle.std.proofs.Common.{◌≡◌, ℕ, zero, suc, ◌<◌, Bool, true, false, cond, Some, List, [], ◌∷◌, ◌++◌, map, refl, subst, arith}
use Rattle.std.specs.Prelude.{filter, find}
use Rattle.std.specs.List.{AllByRecursion}
use Rattle.cf_types.specs.Numbers.{below}
use Rattle.run_rules.specs.Sound.{EachLater}
use Rattle.run_rules.proofs.Devices.{all_imp}

pub all_append : {A : Type 0} (P : A → Type 0) (xs ys : List A) → AllByRecursion P xs → AllByRecursion P ys → AllByRecursion P (xs ++ ys)
all_append P [] ys h k = k
all_append P (x ∷ xs) ys h k = (h.0, all_append P xs ys h.1 k)

pub all_map : {A B : Type 0} (P : B → Type 0) (f : A → B) (xs : List A) → AllByRecursion (λ x. P (f x)) xs → AllByRecursion P (map f xs)
all_map P f [] h = tt
all_map P f (x ∷ xs) h = (h.0, all_map P f xs h.1)

pub all_filter : {A : Type 0} (P : A → Type 0) (test : A → Bool) (xs : List A) → AllByRecursion P xs → AllByRecursion P (filter test xs)
all_filter P test [] h = tt
all_filter {A} P test (x ∷ xs) h = cases (test x) (all_filter P test xs h.1)
  where
    cases : (b : Bool) → AllByRecursion P (filter test xs) → AllByRecursion P (cond b (x ∷ filter test xs) (filter test xs))
    cases true more = (h.0, more)
    cases false more = more

-- the first that passes a test
pub all_found : {A : Type 0} (P : A → Type 0) (test : A → Bool) (xs : List A) (x : A) → AllByRecursion P xs → find test xs ≡ Some x → P x
all_found P test [] x h e = absurd cc
all_found {A} P test (y ∷ xs) x h e = cases (all_found P test xs x h.1) (test y) e
  where
    cases : (find test xs ≡ Some x → P x) → (b : Bool) → cond b (Some y) (find test xs) ≡ Some x → P x
    cases more true k = let same : y ≡ x = cc in subst P same h.0
    cases more false k = more k

pub all_below : (n : ℕ) → AllByRecursion (λ k. k < n) (below n)
all_below zero = tt
all_below (suc n) = all_append (λ k. k < suc n) (below n) (n ∷ []) (all_imp (λ k. k < n) (λ k. k < suc n) (λ k lt. omega arith) (below n) (all_below n)) (omega arith, tt)

-- two tests that say the same of each find the same
pub find_alike : {A : Type 0} (p q : A → Bool) (xs : List A) → AllByRecursion (λ x. p x ≡ q x) xs → find p xs ≡ find q xs
find_alike p q [] h = refl
find_alike p q (x ∷ xs) h = rw (h.0, find_alike p q xs h.1) refl

pub later_filter : {A : Type 0} (R : A → A → Type 0) (test : A → Bool) (xs : List A) → EachLater R xs → EachLater R (filter test xs)
later_filter R test [] h = tt
later_filter {A} R test (x ∷ xs) h = cases (test x) (later_filter R test xs h.1)
  where
    cases : (b : Bool) → EachLater R (filter test xs) → EachLater R (cond b (x ∷ filter test xs) (filter test xs))
    cases true more = (all_filter (R x) test xs h.0, more)
    cases false more = more
