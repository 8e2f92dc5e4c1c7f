-- The places below a number that pass a test, one place more.
use Rattle.std.proofs.Common.{◌≡◌, ◌+◌, ◌∙◌, ℕ, Bool, true, false, List, [], ◌∷◌, ◌++◌, filter, refl, sym, ap, add-one, append-nil}
use Rattle.std.proofs.lemmas.List.Elements.{filter-append}
use Rattle.cf_types.specs.Numbers.{below}

filter_last : (f : ℕ → Bool) (n : ℕ) → filter f (below (n + 1)) ≡ filter f (below n) ++ filter f (n ∷ [])
filter_last f n = rw add-one (filter-append f (below n) (n ∷ []))

pub one_passes : (f : ℕ → Bool) (n : ℕ) (rows more : List ℕ) → f n ≡ true → more ≡ rows ++ n ∷ [] → rows ≡ filter f (below n) → more ≡ filter f (below (n + 1))
one_passes f n rows more passes e so =
    let last : filter f (n ∷ []) ≡ n ∷ [] = rw passes refl in
    e ∙ ap (λ (xs : List ℕ). xs ++ n ∷ []) so ∙ sym (filter_last f n ∙ ap (λ (xs : List ℕ). filter f (below n) ++ xs) last)

pub one_fails : (f : ℕ → Bool) (n : ℕ) (rows : List ℕ) → f n ≡ false → rows ≡ filter f (below n) → rows ≡ filter f (below (n + 1))
one_fails f n rows fails so =
    let last : filter f (n ∷ []) ≡ [] = rw fails refl in
    so ∙ sym (filter_last f n ∙ ap (λ (xs : List ℕ). filter f (below n) ++ xs) last ∙ append-nil (filter f (below n)))
