-- The best of the rows so far is, in the end, the winner.
use Rattle.std.proofs.Common.{◌≡◌, ℕ, zero, suc, ◌+◌, ◌<◌, ◌≤◌, Bool, true, false, not, ◌||◌, nat_le, List, length, Option, Some, None, refl, sym, subst, ◌∙◌, inl, inr, arith}
use Rattle.std.proofs.lemmas.Bool.Decides.{nat_tests}
use Rattle.std.specs.List.{list_all}
use Rattle.std.proofs.lemmas.Bool.{cases_lt, false_from_ne_true}
use Rattle.cf_types.specs.declared.tables.Place.{Place}
use Rattle.run_rules.specs.declared.world.Setup.{Setup}
use Rattle.run_rules.specs.declared.world.Dev.{Dev}
use Rattle.run_rules.specs.declared.world.ParentRef.{ParentRef}
use Rattle.cf_types.specs.Numbers.{below}
use Rattle.run_rules.specs.Search.{first_best, is_best, is_candidate, winner, value_of}
use Rattle.run_rules.proofs.Below.{and_both, find-none, find-is, all_below, at_below}

-- b is a candidate below i, and none below i is better
pub record IsBestOf (c : ℕ → Bool) (v : ℕ → ℕ) (i b : ℕ) : Type 0 where
  pub in_range : b < i
  pub candidate : c b ≡ true
  pub no_greater : (q : ℕ) → q < i → c q ≡ true → v q ≤ v b
  pub no_earlier : (q : ℕ) → q < b → c q ≡ true → v q < v b

-- the best of the candidates below i, if there is one
abbrev pub IsBest : (ℕ → Bool) → (ℕ → ℕ) → ℕ → Option ℕ → Type 0
IsBest c v i None = (q : ℕ) → q < i → c q ≡ false
IsBest c v i (Some b) = IsBestOf c v i b

no_greater : (d : Bool) (x y : ℕ) → (d ≡ true → x ≤ y) → (not d || nat_le x y) ≡ true
no_greater false x y h = refl
no_greater true x y h = let most : x ≤ y = h refl in grind (arith, nat_tests)

greater : (x y : ℕ) → y < x → (not true || nat_le x y) ≡ true → ⊥
greater x y lt h = grind (arith, nat_tests)

pub best_is : (c : ℕ → Bool) (v : ℕ → ℕ) (n : ℕ) (best : Option ℕ) → IsBest c v n best → first_best c v n ≡ best
best_is c v n None h = find-none (is_best c v n) n (λ q lt. rw (h q lt) refl)
best_is c v n (Some b) h =
    let all : list_all (λ q. not (c q) || nat_le (v q) (v b)) (below n) ≡ true = all_below _ n (λ q lt. no_greater (c q) (v q) (v b) (h.no_greater q lt)) in
    find-is (is_best c v n) n b h.in_range (rw (h.candidate, all) refl)
    (λ q less. false_from_ne_true _ (λ top.
    let both = and_both (c q) _ top in
    let at = at_below (λ k. not (c k) || nat_le (v k) (v q)) n both.1 b h.in_range in
    greater (v b) (v q) (h.no_earlier q less both.0) (rw h.candidate at at)))

pub winner_is : (s : Setup) (live : List Dev) (p : ParentRef) (place : Place) (x : ℕ) (best : Option ℕ)
    → IsBest (is_candidate s live p place x) (λ q. value_of s q x) (length s.tables.rows) best → winner s live p place x ≡ best
unfolding winner
winner_is s live p place x best h = best_is (is_candidate s live p place x) (λ q. value_of s q x) (length s.tables.rows) best h

-- ---- one row more

pub best_none : (c : ℕ → Bool) (v : ℕ → ℕ) → IsBest c v 0 None
best_none c v q lt = absurd (omega arith)

pub best_same : (c : ℕ → Bool) (v : ℕ → ℕ) (i : ℕ) (best : Option ℕ) → c i ≡ false → IsBest c v i best → IsBest c v (i + 1) best
best_same c v i None out h = λ q lt. elim (cases_lt q i) [ inl less ↦ h q less | inr more ↦ let same : q ≡ i = omega arith in rw same out ]
best_same c v i (Some b) out h = record {
  in_range = omega (arith, h.in_range);
  candidate = h.candidate;
  no_greater = λ q lt is. elim (cases_lt q i) [ inl less ↦ h.no_greater q less is | inr more ↦ let same : q ≡ i = omega arith in absurd (clash (c i) (rw same at is) out) ];
  no_earlier = h.no_earlier;
}
  where
    clash : (d : Bool) → d ≡ true → d ≡ false → ⊥
    clash d is isnt = absurd cc

pub best_kept : (c : ℕ → Bool) (v : ℕ → ℕ) (i b : ℕ) → v i ≤ v b → IsBest c v i (Some b) → IsBest c v (i + 1) (Some b)
best_kept c v i b le h = record {
  in_range = omega (arith, h.in_range);
  candidate = h.candidate;
  no_greater = λ q lt is. elim (cases_lt q i) [ inl less ↦ h.no_greater q less is | inr more ↦ let same : q ≡ i = omega arith in rw same le ];
  no_earlier = h.no_earlier;
}

pub best_first : (c : ℕ → Bool) (v : ℕ → ℕ) (i : ℕ) → c i ≡ true → IsBest c v i None → IsBest c v (i + 1) (Some i)
best_first c v i is h = record {
  in_range = omega arith;
  candidate = is;
  no_greater = λ q lt here. elim (cases_lt q i) [ inl less ↦ absurd (clash (c q) here (h q less)) | inr more ↦ let same : q ≡ i = omega arith in rw same (omega arith) ];
  no_earlier = λ q less here. absurd (clash (c q) here (h q less));
}
  where
    clash : (d : Bool) → d ≡ true → d ≡ false → ⊥
    clash d is isnt = absurd cc

pub best_new : (c : ℕ → Bool) (v : ℕ → ℕ) (i b : ℕ) → c i ≡ true → v b < v i → IsBest c v i (Some b) → IsBest c v (i + 1) (Some i)
best_new c v i b is more h = record {
  in_range = omega arith;
  candidate = is;
  no_greater = λ q lt here. elim (cases_lt q i) [ inl less ↦ omega (arith, h.no_greater q less here) | inr past ↦ let same : q ≡ i = omega arith in rw same (omega arith) ];
  no_earlier = λ q less here. omega (arith, h.no_greater q less here);
}

-- ---- there is a best one

pub record HasBest (c : ℕ → Bool) (v : ℕ → ℕ) (n : ℕ) : Type 0 where
  pub best : Option ℕ
  pub is : IsBest c v n best

pub has_best : (c : ℕ → Bool) (v : ℕ → ℕ) (n : ℕ) → HasBest c v n
has_best c v zero = record { best = None; is = best_none c v }
has_best c v (suc n) = one (has_best c v n).best (has_best c v n).is (c n) refl
  where
    next : (o : Option ℕ) → IsBest c v (n + 1) o → HasBest c v (suc n)
    next o is = let same : n + 1 ≡ suc n = omega arith in record { best = o; is = subst (λ (m : ℕ). IsBest c v m o) same is }

    one : (o : Option ℕ) → IsBest c v n o → (b : Bool) → c n ≡ b → HasBest c v (suc n)
    one o is false out = next o (best_same c v n o out is)
    one None is true in_ = next (Some n) (best_first c v n in_ is)
    one (Some b) is true in_ = elim (cases_lt (v b) (v n)) [
      | inl less ↦ next (Some n) (best_new c v n b in_ less is)
      | inr more ↦ next (Some b) (best_kept c v n b more is)
    ]

-- what passes one test where it passes another has the same best one
pub best_alike : (c d : ℕ → Bool) (v : ℕ → ℕ) (i : ℕ) (best : Option ℕ) → ((q : ℕ) → c q ≡ d q) → IsBest c v i best → IsBest d v i best
best_alike c d v i None same h = λ q lt. sym (same q) ∙ h q lt
best_alike c d v i (Some b) same h = record {
  in_range = h.in_range;
  candidate = sym (same b) ∙ h.candidate;
  no_greater = λ q lt is. h.no_greater q lt (same q ∙ is);
  no_earlier = λ q lt is. h.no_earlier q lt (same q ∙ is);
}
