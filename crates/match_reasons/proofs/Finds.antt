-- What is found in lists, and among the numbers below a bound.
use Rattle.std.proofs.Common.{◌≡◌, ◌<◌, ◌≤◌, ◌∙◌, ℕ, zero, suc, Bool, true, false, cond, ◌||◌, List, [], ◌∷◌, find, length, slice_get, Option, Some, None, refl, sym, subst, inl, inr, arith}
use Rattle.std.specs.List.{Contains, list_any, slice_index_or}
use Rattle.std.specs.Option.{option_or}
use Rattle.std.proofs.lemmas.Bool.{cases_lt}
use Rattle.std.proofs.lemmas.List.Folds.{find-append}
use Rattle.cf_types.specs.Numbers.{below}

pub clash : (b : Bool) → b ≡ true → b ≡ false → ⊥
clash b is isnt = absurd cc

-- ---- numbers below a bound

-- where nothing is found, no number passes
pub none_below : (p : ℕ → Bool) (n : ℕ) → find p (below n) ≡ None → (q : ℕ) → q < n → p q ≡ false
none_below p zero e q lt = absurd (omega arith)
none_below p (suc n) e q lt = parts (λ h less. none_below p n h q less) (find p (below n)) refl (p n) refl (sym (find-append p (below n) (n ∷ [])) ∙ e)
  where
    parts : (find p (below n) ≡ None → q < n → p q ≡ false) → (o : Option ℕ) → find p (below n) ≡ o → (b : Bool) → p n ≡ b → option_or o (cond b (Some n) None) ≡ None → p q ≡ false
    parts more (Some y) h b k f = absurd cc
    parts more None h true k f = absurd cc
    parts more None h false k f = elim (cases_lt q n) [
      | inl less ↦ more h less
      | inr past ↦ let same : q ≡ n = omega arith in rw same k
    ]

-- before the first that is found no number passes
pub before_found : (p : ℕ → Bool) (n r : ℕ) → find p (below n) ≡ Some r → (q : ℕ) → q < r → p q ≡ false
before_found p zero r e q lt = absurd cc
before_found p (suc n) r e q lt = parts (λ h. before_found p n r h q lt) (find p (below n)) refl (p n) refl (sym (find-append p (below n) (n ∷ [])) ∙ e)
  where
    parts : (find p (below n) ≡ Some r → p q ≡ false) → (o : Option ℕ) → find p (below n) ≡ o → (b : Bool) → p n ≡ b → option_or o (cond b (Some n) None) ≡ Some r → p q ≡ false
    parts more (Some y) h b k f = let same : y ≡ r = cc in more (rw same at h)
    parts more None h false k f = absurd cc
    parts more None h true k f = let same : n ≡ r = cc in none_below p n h q (omega arith)

-- ---- elements of a list

pub found_in : {A : Type 0} (p : A → Bool) (xs : List A) (y : A) → find p xs ≡ Some y → Contains xs y
found_in p [] y e = absurd cc
found_in p (x ∷ xs) y e = at (λ h. found_in p xs y h) (p x) e
  where
    at : (find p xs ≡ Some y → Contains xs y) → (b : Bool) → cond b (Some x) (find p xs) ≡ Some y → Contains (x ∷ xs) y
    at more true h = let same : x ≡ y = cc in (0, omega arith, same)
    at more false h = let rest = more h in (suc rest.0, omega (arith, rest.1), rest.2)

pub none_in : {A : Type 0} (p : A → Bool) (xs : List A) (y : A) → find p xs ≡ None → Contains xs y → p y ≡ false
none_in p [] y e c = absurd (omega (arith, c.1))
none_in p (x ∷ xs) y e c = at (λ f d. none_in p xs y f d) (p x) refl e c.0 c.1 c.2
  where
    at : (find p xs ≡ None → Contains xs y → p y ≡ false) → (b : Bool) → p x ≡ b → cond b (Some x) (find p xs) ≡ None → (k : ℕ) → k < length (x ∷ xs) → slice_index_or (x ∷ xs) k y ≡ y → p y ≡ false
    at more true h f k lt is = absurd cc
    at more false h f zero lt is = subst (λ z. p z ≡ false) is h
    at more false h f (suc k) lt is = more f (k, omega arith, is)

pub any_in : {A : Type 0} (p : A → Bool) (xs : List A) (y : A) → Contains xs y → p y ≡ true → list_any p xs ≡ true
any_in p [] y c h = absurd (omega (arith, c.1))
any_in p (x ∷ xs) y c h = at (λ d. any_in p xs y d h) c.0 c.1 c.2
  where
    or_right : (a b : Bool) → b ≡ true → (a || b) ≡ true
    or_right true b h = refl
    or_right false b h = h

    at : (Contains xs y → list_any p xs ≡ true) → (k : ℕ) → k < length (x ∷ xs) → slice_index_or (x ∷ xs) k y ≡ y → (p x || list_any p xs) ≡ true
    at more zero lt is = rw (subst (λ z. p z ≡ true) (sym is) h) refl
    at more (suc k) lt is = or_right (p x) (list_any p xs) (more (k, omega arith, is))

pub any_at : {A : Type 0} (p : A → Bool) (xs : List A) (i : ℕ) (y : A) → slice_get xs i ≡ Some y → p y ≡ true → list_any p xs ≡ true
any_at p [] i y e h = absurd cc
any_at p (x ∷ xs) zero y e h = let same : x ≡ y = cc in rw (subst (λ z. p z ≡ true) (sym same) h) refl
any_at p (x ∷ xs) (suc i) y e h = or_right (p x) (list_any p xs) (any_at p xs i y e h)
  where
    or_right : (a b : Bool) → b ≡ true → (a || b) ≡ true
    or_right true b h = refl
    or_right false b h = h

pub past_end : {A : Type 0} (xs : List A) (i : ℕ) → length xs ≤ i → slice_get xs i ≡ None
past_end [] i le = refl
past_end (y ∷ xs) zero le = absurd (omega arith)
past_end (y ∷ xs) (suc i) le = past_end xs i (omega arith)
