-- What is known of the first number of a list that passes a test.
use Rattle.std.proofs.Common.{◌≡◌, ℕ, Bool, true, false, ◌||◌, ◌&&◌, ◌==◌, cond, List, [], ◌∷◌, filter, find, Some, None, sym, ◌∙◌, ap, subst, inl, inr, eq-eqb, refl}
use Rattle.std.specs.List.{AllByRecursion}
use Rattle.std.specs.Prelude.{◌⊎◌}
use Rattle.std.proofs.lemmas.Bool.{eqb-true, or_cases, or_right}
use Rattle.std.proofs.lemmas.Option.{same_Some}
use Rattle.cf_types.proofs.TestLemmas.{clash}
use Rattle.cf_types.specs.Gather.{is_in}
use Rattle.run_rules.specs.Sound.{EachLater}

all_in : (P : ℕ → Type 0) (xs : List ℕ) (q : ℕ) → AllByRecursion P xs → is_in q xs ≡ true → P q
all_in P [] q all h = absurd cc
all_in P (x ∷ xs) q all h = elim (or_cases (x == q) (is_in q xs) h) [
  | inl here ↦ subst P (eqb-true x q here) all.0
  | inr more ↦ all_in P xs q all.1 more
]

pub none_passes : (p : ℕ → Bool) (xs : List ℕ) → find p xs ≡ None → (q : ℕ) → is_in q xs ≡ true → p q ≡ false
none_passes p [] e q h = absurd cc
none_passes p (x ∷ xs) e q h = cases (λ k more. none_passes p xs k q more) (p x) refl e
  where
    cases : (find p xs ≡ None → is_in q xs ≡ true → p q ≡ false) → (b : Bool) → p x ≡ b → cond b (Some x) (find p xs) ≡ None → p q ≡ false
    cases rest true here k = absurd cc
    cases rest false here k = elim (or_cases (x == q) (is_in q xs) h) [
      | inl same ↦ subst (λ i. p i ≡ false) (eqb-true x q same) here
      | inr more ↦ rest k more
    ]

-- it is there and passes, and each other one that passes comes after it
pub record IsFirst (p : ℕ → Bool) (R : ℕ → ℕ → Type 0) (xs : List ℕ) (b : ℕ) : Type 0 where
  pub there : is_in b xs ≡ true
  pub passes : p b ≡ true
  pub others : (q : ℕ) → is_in q xs ≡ true → p q ≡ true → (q ≡ b) ⊎ R b q

pub first_passes : (p : ℕ → Bool) (R : ℕ → ℕ → Type 0) (xs : List ℕ) (b : ℕ) → EachLater R xs → find p xs ≡ Some b → IsFirst p R xs b
first_passes p R [] b order e = absurd cc
first_passes p R (x ∷ xs) b order e = cases (λ k. first_passes p R xs b order.1 k) (p x) refl e
  where
    cases : (find p xs ≡ Some b → IsFirst p R xs b) → (t : Bool) → p x ≡ t → cond t (Some x) (find p xs) ≡ Some b → IsFirst p R (x ∷ xs) b
    cases more true here k =
        let same : x ≡ b = same_Some x b k in
        subst (IsFirst p R (x ∷ xs)) same (record {
          there = ap (λ t. t || is_in x xs) (eq-eqb x x refl);
          passes = here;
          others = λ q h pass. elim (or_cases (x == q) (is_in q xs) h) [
            | inl it ↦ inl (sym (eqb-true x q it))
            | inr later ↦ inr (all_in (R x) xs q order.0 later)
          ];
        })
    cases more false here k =
        let rest = more k in
        record {
          there = or_right (x == b) (is_in b xs) rest.there;
          passes = rest.passes;
          others = λ q h pass. elim (or_cases (x == q) (is_in q xs) h) [
            | inl it ↦ clash (p q) pass (subst (λ i. p i ≡ false) (eqb-true x q it) here)
            | inr later ↦ rest.others q later pass
          ];
        }

-- ---- which numbers a filter leaves

-- a number is left by a filter exactly where it is there and passes
pub in_kept : (p : ℕ → Bool) (rs : List ℕ) (r : ℕ) → is_in r (filter p rs) ≡ (p r && is_in r rs)
in_kept p [] r = none (p r)
  where
    none : (b : Bool) → false ≡ (b && false)
    none true = refl
    none false = refl
in_kept p (q ∷ rs) r = by_test (q == r) (p q) refl refl (in_kept p rs r)
  where
    by_test : (b c : Bool) → (q == r) ≡ b → p q ≡ c → is_in r (filter p rs) ≡ (p r && is_in r rs) → is_in r (filter p (q ∷ rs)) ≡ (p r && (q == r || is_in r rs))
    by_test true true e f later =
        let here : p r ≡ true = ap p (sym (eqb-true q r e)) ∙ f in
        rw (f, e, here) refl
    by_test true false e f later =
        let here : p r ≡ false = ap p (sym (eqb-true q r e)) ∙ f in
        rw (f, here) (later ∙ rw here refl)
    by_test false true e f later = rw (f, e) later
    by_test false false e f later = rw (f, e) later

-- where all that pass are there, just those that pass are left
pub all_kept : (p : ℕ → Bool) (rs : List ℕ) (r : ℕ) → (p r ≡ true → is_in r rs ≡ true) → is_in r (filter p rs) ≡ p r
all_kept p rs r h = in_kept p rs r ∙ by_value (p r) refl
  where
    by_value : (b : Bool) → p r ≡ b → (p r && is_in r rs) ≡ p r
    by_value true e = rw e (h e)
    by_value false e = rw e refl
