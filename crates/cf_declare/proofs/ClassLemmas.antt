-- Two device classes among numbers of attributes.
use Rattle.std.proofs.Common.{◌≡◌, ℕ, suc, Bool, true, false, cond, ◌&&◌, ◌||◌, Some, None, List, [], ◌∷◌, length, refl, ap, sym, ◌∙◌, arith}
use Rattle.std.specs.Prelude.{filter, find, not, ◌==◌, nat_lt}
use Rattle.std.specs.List.{list_any}
use Rattle.std.proofs.lemmas.Bool.{eqb-true, eq-eqb, false≢true}
use Rattle.std.proofs.lemmas.Bool.Decides.{nat_tests}
use Rattle.std.proofs.lemmas.Map.Views.{any-filter_same}
use Rattle.cf_types.specs.Offers.{firsts}

differs_if : (q : ℕ → Bool) (x k : ℕ) (b : Bool) → (k == x) ≡ b → q x ≡ false → q k ≡ true → not b ≡ true
differs_if q x k true e f t = absurd (false≢true (sym f ∙ ap q (sym (eqb-true k x e)) ∙ t))
differs_if q x k false e f t = refl

any_first_if : (q : ℕ → Bool) (x : ℕ) (xs : List ℕ) (b : Bool) → q x ≡ b → list_any q (firsts xs) ≡ list_any q xs → (b || list_any q (filter (λ y. not (y == x)) (firsts xs))) ≡ (b || list_any q xs)
any_first_if q x xs true e ih = refl
any_first_if q x xs false e ih = any-filter_same q (λ y. not (y == x)) true (λ k t. differs_if q x k (k == x) refl e t) (firsts xs) ∙ ih

-- a test that some number passes is passed by some first appearance
pub any_firsts : (q : ℕ → Bool) (xs : List ℕ) → list_any q (firsts xs) ≡ list_any q xs
unfolding firsts
any_firsts q [] = refl
any_firsts q (x ∷ xs) = any_first_if q x xs (q x) refl (any_firsts q xs)

any_kept_if : (q : ℕ → Bool) (x : ℕ) (ys : List ℕ) (b : Bool) (rest : Bool) → list_any q ys ≡ rest → list_any q (cond b (x ∷ ys) ys) ≡ ((b && q x) || rest)
any_kept_if q x ys true rest e = ap (λ v. q x || v) e
any_kept_if q x ys false rest e = e

any-filter : (q p : ℕ → Bool) (xs : List ℕ) → list_any q (filter p xs) ≡ list_any (λ a. p a && q a) xs
any-filter q p [] = refl
any-filter q p (x ∷ xs) = any_kept_if q x (filter p xs) (p x) _ (any-filter q p xs)

more_if : (x : ℕ) (ys : List ℕ) (b rest : Bool) → nat_lt 1 (suc (length ys)) ≡ rest → nat_lt 1 (suc (length (cond b (x ∷ ys) ys))) ≡ (b || rest)
more_if x ys true rest e = grind (arith, nat_tests)
more_if x ys false rest e = e

-- something is kept exactly where a number passes
more_than_one : (q : ℕ → Bool) (zs : List ℕ) → nat_lt 1 (suc (length (filter q zs))) ≡ list_any q zs
more_than_one q [] = refl
more_than_one q (z ∷ zs) = more_if z (filter q zs) (q z) (list_any q zs) (more_than_one q zs)

none_if : (p : ℕ → Bool) (x : ℕ) (xs : List ℕ) (b : Bool) → cond b (Some x) (find p xs) ≡ None → (find p xs ≡ None → false ≡ nat_lt 1 (length (firsts (filter p xs)))) → false ≡ nat_lt 1 (length (firsts (cond b (x ∷ filter p xs) (filter p xs))))
none_if p x xs true e ih = cc
none_if p x xs false e ih = ih e

-- no class, no two
pub no_class : (p : ℕ → Bool) (xs : List ℕ) → find p xs ≡ None → false ≡ nat_lt 1 (length (firsts (filter p xs)))
unfolding firsts
no_class p [] e = refl
no_class p (x ∷ xs) e = none_if p x xs (p x) e (λ h. no_class p xs h)

other_than_itself : (p : ℕ → Bool) (x : ℕ) (xs : List ℕ) → (not (x == x) || list_any (λ a. p a && not (a == x)) xs) ≡ nat_lt 1 (length (firsts (x ∷ filter p xs)))
unfolding firsts
other_than_itself p x xs =
    ap (λ b. not b || list_any (λ a. p a && not (a == x)) xs) (eq-eqb x x refl)
    ∙ sym (any-filter (λ y. not (y == x)) p xs) ∙ sym (any_firsts (λ y. not (y == x)) (filter p xs))
    ∙ sym (more_than_one (λ y. not (y == x)) (firsts (filter p xs)))

found_here : (x f : ℕ) → Some x ≡ Some f → f ≡ x
found_here x f e = cc

some_if : (p : ℕ → Bool) (x f : ℕ) (xs : List ℕ) (b : Bool) → cond b (Some x) (find p xs) ≡ Some f → (find p xs ≡ Some f → list_any (λ a. p a && not (a == f)) xs ≡ nat_lt 1 (length (firsts (filter p xs)))) → ((b && not (x == f)) || list_any (λ a. p a && not (a == f)) xs) ≡ nat_lt 1 (length (firsts (cond b (x ∷ filter p xs) (filter p xs))))
some_if p x f xs true e ih =
    ap (λ g. not (x == g) || list_any (λ a. p a && not (a == g)) xs) (found_here x f e) ∙ other_than_itself p x xs
some_if p x f xs false e ih = ih e

-- another class than the first one
pub some_class : (p : ℕ → Bool) (f : ℕ) (xs : List ℕ) → find p xs ≡ Some f → list_any (λ a. p a && not (a == f)) xs ≡ nat_lt 1 (length (firsts (filter p xs)))
some_class p f [] e = cc
some_class p f (x ∷ xs) e = some_if p x f xs (p x) e (λ h. some_class p f xs h)
