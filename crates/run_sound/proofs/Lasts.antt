-- What is found in a list, from its start or from its end: where the others that pass stand.
use Rattle.std.proofs.Common.{◌≡◌, ◌⊎◌, suc, Bool, true, false, cond, List, [], ◌∷◌, reverse, find, Option, Some, None, refl, subst, inl, inr, arith}
use Rattle.std.proofs.lemmas.Option.{same_Some}
use Rattle.std.specs.List.{AllByRecursion, Contains}
use Rattle.std.specs.Option.{option_or}
use Rattle.std.proofs.lemmas.List.{reverse-append}
use Rattle.std.proofs.lemmas.List.Folds.{find-append}
use Rattle.run_rules.specs.Sound.{EachLater}
use Rattle.run_rules.proofs.Devices.{all_imp}
use Rattle.run_sound.proofs.Callers.{clash}
use Rattle.run_sound.proofs.Members.{of_each}

-- it passes, and each other one that passes stands before it
pub record IsLast {A : Type 0} (p : A → Bool) (R : A → A → Type 0) (xs : List A) (x : A) : Type 0 where
  pub there : Contains xs x
  pub passes : p x ≡ true
  pub others : AllByRecursion (λ y. p y ≡ true → (y ≡ x) ⊎ R y x) xs

abbrev LastOf : {A : Type 0} → (A → Bool) → (A → A → Type 0) → List A → Option A → Type 0
LastOf p R xs None = AllByRecursion (λ x. p x ≡ false) xs
LastOf p R xs (Some x) = IsLast p R xs x

last_of : {A : Type 0} (p : A → Bool) (R : A → A → Type 0) (xs : List A) → EachLater R xs → LastOf p R xs (find p (reverse xs))
last_of p R [] h = tt
last_of {A} p R (x ∷ xs) h =
    rw (reverse-append (x ∷ []) xs, find-append p (reverse xs) (x ∷ [])) (cases (find p (reverse xs)) (last_of p R xs h.1) (p x) refl)
  where
    cases : (o : Option A) → LastOf p R xs o → (b : Bool) → p x ≡ b → LastOf p R (x ∷ xs) (option_or o (cond b (Some x) None))
    cases (Some y) last b e = record {
      there = (suc last.there.0, omega (arith, last.there.1), last.there.2);
      passes = last.passes;
      others = (λ k. inr (of_each (R x) xs y h.0 last.there), last.others);
    }
    cases None none true e = record {
      there = (0, omega arith, refl);
      passes = e;
      others = (λ k. inl refl, all_imp (λ y. p y ≡ false) (λ y. p y ≡ true → (y ≡ x) ⊎ R y x) (λ y off on. clash (p y) on off) xs none);
    }
    cases None none false e = (e, none)

pub last_found : {A : Type 0} (p : A → Bool) (R : A → A → Type 0) (xs : List A) (x : A) → EachLater R xs → find p (reverse xs) ≡ Some x → IsLast p R xs x
last_found p R xs x h e = subst (LastOf p R xs) e (last_of p R xs h)

-- what is found from the start: each other one that passes stands after it
pub first_found : {A : Type 0} (p : A → Bool) (R : A → A → Type 0) (xs : List A) (x : A) → EachLater R xs → find p xs ≡ Some x → AllByRecursion (λ y. p y ≡ true → (y ≡ x) ⊎ R x y) xs
first_found p R [] x h e = tt
first_found {A} p R (y ∷ ys) x h e = cases (first_found p R ys x h.1) (p y) refl e
  where
    cases : (find p ys ≡ Some x → AllByRecursion (λ z. p z ≡ true → (z ≡ x) ⊎ R x z) ys) → (b : Bool) → p y ≡ b → cond b (Some y) (find p ys) ≡ Some x
        → AllByRecursion (λ z. p z ≡ true → (z ≡ x) ⊎ R x z) (y ∷ ys)
    cases more true on k =
        let same : y ≡ x = same_Some y x k in
        (λ pass. inl same, all_imp (R y) (λ z. p z ≡ true → (z ≡ x) ⊎ R x z) (λ z later pass. inr (subst (λ (a : A). R a z) same later)) ys h.0)
    cases more false off k = (λ pass. clash (p y) pass off, more k)
