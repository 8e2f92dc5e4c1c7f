-- The numbers below n: the first that passes a test, and tests of each of them.
use Rattle.std.proofs.Common.{◌≡◌, ℕ, zero, suc, ◌<◌, Bool, true, false, ◌&&◌, List, [], ◌∷◌, ◌++◌, find, cond, Option, Some, None, refl, sym, ◌∙◌, inl, inr, arith}
use Rattle.std.specs.List.{list_all}
use Rattle.std.specs.Option.{option_or}
use Rattle.std.proofs.lemmas.Bool.{cases_lt}
use Rattle.std.proofs.lemmas.List.Folds.{find-append}
use Rattle.cf_types.specs.Numbers.{below}

pub and_both : (a b : Bool) → (a && b) ≡ true → (a ≡ true) × (b ≡ true)
and_both true b h = (refl, h)
and_both false b h = absurd cc

pub find-none : (p : ℕ → Bool) (n : ℕ) → ((q : ℕ) → q < n → p q ≡ false) → find p (below n) ≡ None
find-none p zero h = refl
find-none p (suc n) h =
    let here : p n ≡ false = h n (omega arith) in
    rw (find-append p (below n) (n ∷ []), find-none p n (λ q lt. h q (omega arith)), here) refl

pub find-is : (p : ℕ → Bool) (n r : ℕ) → r < n → p r ≡ true → ((q : ℕ) → q < r → p q ≡ false) → find p (below n) ≡ Some r
find-is p zero r lt here before = absurd (omega arith)
find-is p (suc n) r lt here before =
    elim (cases_lt r n) [
      | inl less ↦ rw (find-append p (below n) (n ∷ []), find-is p n r less here before) refl
      | inr le ↦
          let same : r ≡ n = omega arith in
          let now : p n ≡ true = rw (← same) here in
          rw (find-append p (below n) (n ∷ []), find-none p n (λ q less. before q (omega arith)), now, same) refl
    ]

list_all-snoc : (p : ℕ → Bool) (xs : List ℕ) (y : ℕ) → list_all p (xs ++ y ∷ []) ≡ (list_all p xs && p y)
list_all-snoc p [] y = elim (p y) as (λ b. (b && true) ≡ b) [ true ↦ refl | false ↦ refl ]
list_all-snoc p (x ∷ xs) y = elim (p x) as (λ b. (b && list_all p (xs ++ y ∷ [])) ≡ ((b && list_all p xs) && p y)) [ true ↦ list_all-snoc p xs y | false ↦ refl ]

pub all_below : (p : ℕ → Bool) (n : ℕ) → ((q : ℕ) → q < n → p q ≡ true) → list_all p (below n) ≡ true
all_below p zero h = refl
all_below p (suc n) h =
    let here : p n ≡ true = h n (omega arith) in
    rw (list_all-snoc p (below n) n, all_below p n (λ q lt. h q (omega arith)), here) refl

pub at_below : (p : ℕ → Bool) (n : ℕ) → list_all p (below n) ≡ true → (q : ℕ) → q < n → p q ≡ true
at_below p zero h q lt = absurd (omega arith)
at_below p (suc n) h q lt =
    let both = and_both (list_all p (below n)) (p n) (sym (list_all-snoc p (below n) n) ∙ h) in
    elim (cases_lt q n) [
      | inl less ↦ at_below p n both.0 q less
      | inr le ↦ let same : q ≡ n = omega arith in rw same both.1
    ]

-- what is found below n is below n
pub find_below : (p : ℕ → Bool) (n r : ℕ) → find p (below n) ≡ Some r → r < n
find_below p zero r e = absurd cc
find_below p (suc n) r e = cases (λ q h. find_below p n q h) (find p (below n)) refl (sym (find-append p (below n) (n ∷ [])) ∙ e)
  where
    last : (b : Bool) → cond b (Some n) None ≡ Some r → r < suc n
    last true h = let same : n ≡ r = cc in omega arith
    last false h = absurd cc

    cases : ((q : ℕ) → find p (below n) ≡ Some q → q < n) → (o : Option ℕ) → find p (below n) ≡ o → option_or o (find p (n ∷ [])) ≡ Some r → r < suc n
    cases more None h k = last (p n) k
    cases more (Some q) h k =
        let same : q ≡ r = cc in
        let less : q < n = more q h in
        omega arith
