-- What a search from the end of a list finds, step by step.
use Rattle.std.proofs.Common.{◌≡◌, ℕ, suc, ◌-◌, ◌<◌, ◌∙◌, Bool, true, false, Some, List, [], ◌∷◌, ap, get_or, length, refl, sym, take, arith}
use Rattle.std.specs.Prelude.{None, find, reverse}
use Rattle.std.proofs.Math.Seq.{take-length, take-suc}
use Rattle.std.proofs.lemmas.List.{reverse-append}

-- the last one of those that are left comes first
last_first : {X : Type 0} (xs : List X) (j k : ℕ) (d : X) → k ≡ suc j → j < length xs → reverse (take k xs) ≡ get_or xs j d ∷ reverse (take j xs)
last_first xs j k d e lt = ap (λ n. reverse (take n xs)) e ∙ ap reverse (take-suc xs j d lt) ∙ reverse-append (take j xs) (get_or xs j d ∷ [])

pub last_fails : {X : Type 0} (p : X → Bool) (xs : List X) (j k : ℕ) (d : X) → k ≡ suc j → j < length xs → p (get_or xs j d) ≡ false
    → find p (reverse (take j xs)) ≡ find p (reverse (take k xs))
last_fails p xs j k d e lt fails = rw (last_first xs j k d e lt) (rw fails refl)

pub last_found : {X : Type 0} (p : X → Bool) (xs : List X) (j k : ℕ) (d : X) → k ≡ suc j → j < length xs → p (get_or xs j d) ≡ true
    → find p (reverse (take k xs)) ≡ Some (get_or xs j d)
last_found p xs j k d e lt fits = rw (last_first xs j k d e lt) (rw fits refl)

-- ---- how far a search from the end has come

-- what is searched for is found among the first k
abbrev pub IsLeft : {X : Type 0} → (X → Bool) → List X → ℕ → Type 0
IsLeft p xs k = find p (reverse (take k xs)) ≡ find p (reverse xs)

pub left_all : {X : Type 0} (p : X → Bool) (xs : List X) → IsLeft p xs (length xs)
left_all p xs = ap (λ ys. find p (reverse ys)) (take-length xs)

pub left_more : {X : Type 0} (p : X → Bool) (xs : List X) (k : ℕ) (d : X) → 0 < k → k - 1 < length xs → p (get_or xs (k - 1) d) ≡ false → IsLeft p xs k → IsLeft p xs (k - 1)
left_more p xs k d some lt fails left = last_fails p xs (k - 1) k d (omega arith) lt fails ∙ left

pub left_found : {X : Type 0} (p : X → Bool) (xs : List X) (k : ℕ) (d : X) → 0 < k → k - 1 < length xs → p (get_or xs (k - 1) d) ≡ true → IsLeft p xs k → Some (get_or xs (k - 1) d) ≡ find p (reverse xs)
left_found p xs k d some lt fits left = sym (last_found p xs (k - 1) k d (omega arith) lt fits) ∙ left

pub left_none : {X : Type 0} (p : X → Bool) (xs : List X) (k : ℕ) → k ≡ 0 → IsLeft p xs k → None ≡ find p (reverse xs)
left_none p xs k none left = ap (λ (j : ℕ). find p (reverse (take j xs))) (sym none) ∙ left
