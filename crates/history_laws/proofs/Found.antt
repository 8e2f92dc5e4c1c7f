-- What is found in a list that is mapped, filtered, or longer by one.
use Rattle.std.proofs.Common.{◌≡◌, Bool, true, false, cond, List, [], ◌∷◌, find, map, Some, None, refl, option_map}
use Rattle.std.specs.Prelude.{filter}
use Rattle.std.specs.List.{AllByRecursion}
use Rattle.run_sound.proofs.Callers.{clash}

pub found_mapped : {A : Type 0} (p : A → Bool) (f : A → A) (xs : List A) → ((x : A) → p (f x) ≡ p x) → find p (map f xs) ≡ option_map f (find p xs)
found_mapped p f [] same = refl
found_mapped {A} p f (x ∷ xs) same = cases (p (f x)) (p x) (same x) (found_mapped p f xs same)
  where
    cases : (a b : Bool) → a ≡ b → find p (map f xs) ≡ option_map f (find p xs) → cond a (Some (f x)) (find p (map f xs)) ≡ option_map f (cond b (Some x) (find p xs))
    cases true true e rest = refl
    cases true false e rest = absurd cc
    cases false true e rest = absurd cc
    cases false false e rest = rest

-- each one that passes is left
pub found_left : {A : Type 0} (p q : A → Bool) (xs : List A) → AllByRecursion (λ x. p x ≡ true → q x ≡ true) xs → find p (filter q xs) ≡ find p xs
found_left p q [] h = refl
found_left {A} p q (x ∷ xs) h = cases (p x) refl (q x) refl (found_left p q xs h.1)
  where
    cases : (a : Bool) → p x ≡ a → (b : Bool) → q x ≡ b → find p (filter q xs) ≡ find p xs → find p (cond b (x ∷ filter q xs) (filter q xs)) ≡ cond a (Some x) (find p xs)
    cases true on true stays rest = rw on refl
    cases true on false goes rest = clash (q x) (h.0 on) goes
    cases false off true stays rest = rw off rest
    cases false off false goes rest = rest

-- none that passes is left
pub found_gone : {A : Type 0} (p q : A → Bool) (xs : List A) → AllByRecursion (λ x. p x ≡ true → q x ≡ false) xs → find p (filter q xs) ≡ None
found_gone p q [] h = refl
found_gone {A} p q (x ∷ xs) h = cases (p x) refl (q x) refl (found_gone p q xs h.1)
  where
    cases : (a : Bool) → p x ≡ a → (b : Bool) → q x ≡ b → find p (filter q xs) ≡ None → find p (cond b (x ∷ filter q xs) (filter q xs)) ≡ None
    cases true on true stays rest = clash (q x) stays (h.0 on)
    cases false off true stays rest = rw off rest
    cases a is false goes rest = rest
