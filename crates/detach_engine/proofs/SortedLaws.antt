-- Serials in order.
use Rattle.std.proofs.Common.{◌≡◌, ◌≢◌, ◌==◌, ◌||◌, ℕ, ◌<◌, ◌≤◌, suc, arith, Bool, true, false, List, [], ◌∷◌, length, get_or, refl, ap, ◌∙◌, eq-eqb, ne_eqb, ◌⊎◌, inl, inr}
use Rattle.std.specs.Prelude.{Result, Ok, Err}
use Rattle.std.specs.List.Sorted.{IsBinarySearchResult, IsSorted}
use Rattle.std.specs.Ordering.{nat_cmp}
use Rattle.std.specs.Result.{is_ok}
use Rattle.std.proofs.lemmas.List.Folds.{list_any_at}
use Rattle.std.proofs.lemmas.List.Sorted.{IsNonDecreasingBy-from_sort, searched}
use Rattle.run_rules.specs.World.{has}

none_there : (xs : List ℕ) (x : ℕ) → ((k : ℕ) → k < length xs → get_or xs k 0 ≢ x) → has xs x ≡ false
none_there [] x h = refl
none_there (y ∷ ys) x h = ap (λ b. b || has ys x) (ne_eqb y x (h 0 (omega arith))) ∙ none_there ys x (λ k lt. h (suc k) (omega arith))

-- a binary search finds exactly the serials that are there
pub search_tells : (xs : List ℕ) (x : ℕ) (r : Result ℕ ℕ) → IsSorted nat_cmp xs → IsBinarySearchResult (λ y. nat_cmp y x) xs r → is_ok r ≡ has xs x
search_tells xs x (Ok i) sorted h =
    let found = searched xs x (Ok i) h (λ i j le lt. IsNonDecreasingBy-from_sort (λ y. y) xs sorted i j 0 le lt) in
    let there : has xs x ≡ true = list_any_at (λ y. y == x) xs i 0 found.0 (eq-eqb (get_or xs i 0) x found.1) in cc
search_tells xs x (Err i) sorted h =
    let none = searched xs x (Err i) h (λ i j le lt. IsNonDecreasingBy-from_sort (λ y. y) xs sorted i j 0 le lt) in
    let absent : has xs x ≡ false = none_there xs x (λ k lt is. by k is lt (none.1 k) (none.2 k) (cases k i)) in cc
  where
    cases : (k i : ℕ) → (k < i) ⊎ (i ≤ k)
    cases k i = grind arith

    by : (k : ℕ) → get_or xs k 0 ≡ x → k < length xs → (k < i → get_or xs k 0 < x) → (i ≤ k → k < length xs → x < get_or xs k 0) → (k < i) ⊎ (i ≤ k) → ⊥
    by k is lt low high (inl l) = let m : get_or xs k 0 < x = low l in omega arith
    by k is lt low high (inr l) = let m : x < get_or xs k 0 = high l lt in omega arith
