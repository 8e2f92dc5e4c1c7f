-- Members of filtered and reversed lists.
use Rattle.std.proofs.Common.{◌≡◌, ◌≢◌, ◌<◌, ◌≤◌, ◌+◌, ℕ, zero, suc, Bool, true, false, not, ◌==◌, cond, List, [], ◌∷◌, ◌++◌, length, reverse, refl, sym, ap, ◌∙◌, subst, inl, inr, arith, eqb-true, eq-eqb}
use Rattle.std.specs.Prelude.{filter}
use Rattle.std.specs.List.{AllByRecursion, Contains}
use Rattle.std.proofs.lemmas.Bool.{cases_lt, cond_both, ne_eqb, not-true}
use Rattle.std.proofs.lemmas.List.{reverse-append}
use Rattle.run_rules.specs.Sound.{EachLater}
use Rattle.run_rules.proofs.Devices.{all_front, all_imp, all_snoc, later_snoc}
use Rattle.run_sound.proofs.Callers.{clash}
use Rattle.run_sound.proofs.Members.{each_of, each_passed, later_passed, of_each}

-- ---- filtered

pub filter_out : {A : Type 0} (q : A → Bool) (xs : List A) (d : A) → Contains (filter q xs) d → Contains xs d × (q d ≡ true)
filter_out {A} q xs d here =
    of_each (λ (e : A). Contains xs e × (q e ≡ true)) (filter q xs) d
    (each_passed (λ (e : A). Contains xs e × (q e ≡ true)) q xs (each_of (λ (e : A). q e ≡ true → Contains xs e × (q e ≡ true)) xs (λ e at k. (at, k)))) here

in_head : {A : Type 0} (x : A) (xs : List A) → Contains (x ∷ xs) x
in_head x xs = (0, omega arith, refl)

in_tail : {A : Type 0} (x : A) (xs : List A) (y : A) → Contains xs y → Contains (x ∷ xs) y
in_tail x xs y (k, lt, is) = (suc k, omega (arith, lt), is)

each_in : {A : Type 0} (q : A → Bool) (xs : List A) → AllByRecursion (λ (d : A). q d ≡ true → Contains (filter q xs) d) xs
each_in q [] = tt
each_in {A} q (x ∷ xs) =
    cond_both (q x) (x ∷ filter q xs) (filter q xs) (λ (ys : List A). AllByRecursion (λ (d : A). q d ≡ true → Contains ys d) (x ∷ xs))
    (λ e. (λ k. in_head x (filter q xs), all_imp (λ (d : A). q d ≡ true → Contains (filter q xs) d) (λ (d : A). q d ≡ true → Contains (x ∷ filter q xs) d) (λ d h k. in_tail x (filter q xs) d (h k)) xs (each_in q xs)))
    (λ e. (λ k. clash (q x) k e, each_in q xs))

pub filter_in : {A : Type 0} (q : A → Bool) (xs : List A) (d : A) → Contains xs d → q d ≡ true → Contains (filter q xs) d
filter_in {A} q xs d here k = of_each (λ (e : A). q e ≡ true → Contains (filter q xs) e) xs d (each_in q xs) here k

pub filter_all : {A : Type 0} (q : A → Bool) (xs : List A) → AllByRecursion (λ (d : A). q d ≡ true) xs → filter q xs ≡ xs
filter_all q [] h = refl
filter_all {A} q (x ∷ xs) h = rw h.0 (ap (λ (ys : List A). x ∷ ys) (filter_all q xs h.1))

pub filter_none : {A : Type 0} (q : A → Bool) (xs : List A) → AllByRecursion (λ (d : A). q d ≡ false) xs → filter q xs ≡ []
filter_none q [] h = refl
filter_none q (x ∷ xs) h = rw h.0 (filter_none q xs h.1)

-- ---- reversed

pub all_reversed : {A : Type 0} (P : A → Type 0) (xs : List A) → AllByRecursion P xs → AllByRecursion P (reverse xs)
all_reversed P [] h = tt
all_reversed P (x ∷ xs) h = rw (reverse-append (x ∷ []) xs) (all_snoc P (reverse xs) x (all_reversed P xs h.1) h.0)

pub reverse_out : {A : Type 0} (xs : List A) (d : A) → Contains (reverse xs) d → Contains xs d
reverse_out xs d here = of_each (Contains xs) (reverse xs) d (all_reversed (Contains xs) xs (each_of (Contains xs) xs (λ e at. at))) here

each_reversed : {A : Type 0} (xs : List A) → AllByRecursion (Contains (reverse xs)) xs
each_reversed [] = tt
each_reversed {A} (x ∷ xs) =
    let zs : List A = reverse xs ++ x ∷ [] in
    let both = all_front (Contains zs) (reverse xs) x (each_of (Contains zs) zs (λ e at. at)) in
    let more : AllByRecursion (Contains zs) xs = all_imp (Contains (reverse xs)) (Contains zs) (λ d at. of_each (Contains zs) (reverse xs) d both.0 at) xs (each_reversed xs) in
    subst (λ (ys : List A). AllByRecursion (Contains ys) (x ∷ xs)) (sym (reverse-append (x ∷ []) xs)) (both.1, more)

pub reverse_in : {A : Type 0} (xs : List A) (d : A) → Contains xs d → Contains (reverse xs) d
reverse_in xs d here = of_each (Contains (reverse xs)) xs d (each_reversed xs) here

pub later_reversed : {A : Type 0} (R : A → A → Type 0) (xs : List A) → EachLater R xs → EachLater (λ (x y : A). R y x) (reverse xs)
later_reversed R [] h = tt
later_reversed {A} R (x ∷ xs) h =
    rw (reverse-append (x ∷ []) xs) (later_snoc (λ (y z : A). R z y) (reverse xs) x (later_reversed R xs h.1) (all_reversed (R x) xs h.0))

-- ---- distinct numbers

pub one_longer : {A : Type 0} (xs : List A) (y : A) → length (xs ++ y ∷ []) ≡ length xs + 1
one_longer [] y = refl
one_longer (x ∷ xs) y = omega (arith, one_longer xs y)

drop_one : {A : Type 0} (key : A → ℕ) (n : ℕ) (xs : List A) → EachLater (λ d e. key d ≢ key e) xs → length xs ≤ 1 + length (filter (λ d. not (key d == n)) xs)
drop_one key n [] h = omega arith
drop_one {A} key n (d ∷ ds) h = cases (drop_one key n ds h.1) (key d == n) refl
  where
    test : A → Bool
    test e = not (key e == n)

    cases : length ds ≤ 1 + length (filter test ds) → (b : Bool) → (key d == n) ≡ b → suc (length ds) ≤ 1 + length (cond (not b) (d ∷ filter test ds) (filter test ds))
    cases more false e = omega (arith, more)
    cases more true e =
        let same : key d ≡ n = eqb-true (key d) n e in
        let all : filter test ds ≡ ds =
        filter_all test ds (all_imp (λ (e : A). key d ≢ key e) (λ (e : A). test e ≡ true) (λ e other. ap not (ne_eqb (key e) n (λ k. other (same ∙ sym k)))) ds h.0) in
        rw all (omega arith)

-- so many numbers, so many of which no two have one in common
pub few_keys : {A : Type 0} (key : A → ℕ) (n : ℕ) (xs : List A) → EachLater (λ d e. key d ≢ key e) xs → AllByRecursion (λ d. key d < n) xs → length xs ≤ n
few_keys key zero [] apart h = omega arith
few_keys key zero (d ∷ ds) apart h = let low : key d < 0 = h.0 in absurd (omega (arith, low))
few_keys {A} key (suc n) xs apart h =
    omega (
      arith,
      drop_one key n xs apart,
      few_keys key n (filter test xs) (later_passed (λ d e. key d ≢ key e) test xs apart)
          (each_passed (λ (d : A). key d < n) test xs (all_imp (λ (d : A). key d < suc n) (λ (d : A). test d ≡ true → key d < n) (λ d lt k. less (key d) lt k) xs h)),
    )
  where
    test : A → Bool
    test e = not (key e == n)

    less : (x : ℕ) → x < suc n → not (x == n) ≡ true → x < n
    less x lt k = elim (cases_lt x n) [
      | inl here ↦ here
      | inr past ↦ let same : x ≡ n = omega (arith, lt, past) in clash (x == n) (eq-eqb x n same) (not-true (x == n) k)
    ]
