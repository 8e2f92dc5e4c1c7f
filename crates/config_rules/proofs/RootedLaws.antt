-- A list of truth values that is closed, with a chain to the root for each that is marked, marks exactly what is rooted.
use Rattle.std.proofs.Common.{sym, ◌≡◌, ℕ, zero, suc, ◌<◌, inl, inr, Bool, true, false, not, ◌&&◌, ◌||◌, List, [], ◌∷◌, length, refl, ap, ◌∙◌, arith}
use Rattle.std.specs.Prelude.{slice_index_or, nat_lt}
use Rattle.std.proofs.lemmas.Bool.{cases_lt, ltb-true}
use Rattle.std.proofs.lemmas.List.{ext_get_or}
use Rattle.cf_types.proofs.TestLemmas.{same_answer}
use Rattle.config_rules.specs.Select.{LeadsToRoot, AreRooted}
use Rattle.config_rules.proofs.CutLaws.{both_left, both_right}

-- each number below this one passes
abbrev pub all_below : ℕ → (ℕ → Bool) → Bool
all_below zero p = true
all_below (suc n) p = p n && all_below n p

-- where the first holds, so does the second
abbrev pub implies : Bool → Bool → Bool
implies a b = not a || b

-- a chain leads from this one to the root
abbrev pub leads : (ℕ → Bool) → (ℕ → ℕ → Bool) → ℕ → ℕ → List ℕ → Bool
leads at_root carries n i [] = nat_lt i n && at_root i
leads at_root carries n i (j ∷ chain) = nat_lt i n && carries j i && leads at_root carries n j chain

-- what is marked has a chain of these, what is at the root is marked, and so is what something that is marked carries
abbrev pub are_marks : (ℕ → Bool) → (ℕ → ℕ → Bool) → ℕ → List Bool → List (List ℕ) → Bool
are_marks at_root carries n marks chains =
    all_below n (λ i. implies (slice_index_or marks i false) (leads at_root carries n i (slice_index_or chains i [])))
    && all_below n (λ i. implies (at_root i) (slice_index_or marks i false))
    && all_below n (λ j. all_below n (λ i. implies (slice_index_or marks j false && carries j i) (slice_index_or marks i false)))

all_below_is : (n : ℕ) (p : ℕ → Bool) → all_below n p ≡ true → (i : ℕ) → i < n → p i ≡ true
all_below_is zero p h i lt = absurd (omega arith)
all_below_is (suc n) p h i lt =
    elim (cases_lt i n) [
      | inl less ↦ all_below_is n p (both_right (p n) (all_below n p) h) i less
      | inr last ↦ let same : i ≡ n = omega arith in ap p same ∙ both_left (p n) (all_below n p) h
    ]

implied : (a b : Bool) → implies a b ≡ true → a ≡ true → b ≡ true
implied true b h k = h
implied false b h k = absurd (cc)

leads_is : (at_root : ℕ → Bool) (carries : ℕ → ℕ → Bool) (n i : ℕ) (chain : List ℕ) → leads at_root carries n i chain ≡ true → LeadsToRoot at_root carries n i chain
leads_is at_root carries n i [] h = (ltb-true i n (both_left (nat_lt i n) (at_root i) h), both_right (nat_lt i n) (at_root i) h)
leads_is at_root carries n i (j ∷ chain) h =
    let here : (nat_lt i n && carries j i) ≡ true = both_left (nat_lt i n && carries j i) (leads at_root carries n j chain) h in (
      ltb-true i n (both_left (nat_lt i n) (carries j i) here),
      both_right (nat_lt i n) (carries j i) here,
      leads_is at_root carries n j chain (both_right (nat_lt i n && carries j i) (leads at_root carries n j chain) h),
    )

-- nothing that is marked carries one that isn't
abbrev pub Closed : (ℕ → ℕ → Bool) → ℕ → List Bool → Type 0
Closed carries n marks = (j i : ℕ) → i < n → slice_index_or marks j false ≡ true → carries j i ≡ true → slice_index_or marks i false ≡ true

-- marks that are closed and mark those at the root mark all that is rooted
pub closed_marks : (at_root : ℕ → Bool) (carries : ℕ → ℕ → Bool) (n : ℕ) (marks : List Bool) → ((i : ℕ) → i < n → at_root i ≡ true → slice_index_or marks i false ≡ true)
    → Closed carries n marks → (i : ℕ) (chain : List ℕ) → LeadsToRoot at_root carries n i chain → slice_index_or marks i false ≡ true
closed_marks at_root carries n marks roots closed i [] h = roots i h.0 h.1
closed_marks at_root carries n marks roots closed i (j ∷ chain) h = closed j i h.0 (closed_marks at_root carries n marks roots closed j chain h.2) h.1

marked_within : (marks : List Bool) (j : ℕ) → slice_index_or marks j false ≡ true → j < length marks
marked_within [] j h = absurd (cc)
marked_within (m ∷ marks) zero h = omega arith
marked_within (m ∷ marks) (suc j) h = let more = marked_within marks j h in omega arith

pub rooted_by : (at_root : ℕ → Bool) (carries : ℕ → ℕ → Bool) (n : ℕ) (marks : List Bool) (chains : List (List ℕ)) → length marks ≡ n → are_marks at_root carries n marks chains ≡ true → AreRooted at_root carries n marks
rooted_by at_root carries n marks chains len h =
    let mark = λ (i : ℕ). slice_index_or marks i false in
    let chained = λ (i : ℕ). implies (mark i) (leads at_root carries n i (slice_index_or chains i [])) in
    let from_root = λ (i : ℕ). implies (at_root i) (mark i) in
    let closed = λ (j : ℕ). all_below n (λ i. implies (mark j && carries j i) (mark i)) in
    let first : (all_below n chained && all_below n from_root) ≡ true = both_left (all_below n chained && all_below n from_root) (all_below n closed) h in
    let last : all_below n closed ≡ true = both_right (all_below n chained && all_below n from_root) (all_below n closed) h in
    let roots : (i : ℕ) → i < n → at_root i ≡ true → mark i ≡ true =
    λ i lt at. implied (at_root i) (mark i) (all_below_is n from_root (both_right (all_below n chained) (all_below n from_root) first) i lt) at in
    let carried : Closed carries n marks =
    λ j i lt marked holds.
    let both : (mark j && carries j i) ≡ true = rw (marked, holds) refl in
    let within : j < length marks = marked_within marks j marked in
    let row : all_below n (λ k. implies (mark j && carries j k) (mark k)) ≡ true = all_below_is n closed last j (omega arith) in
    implied (mark j && carries j i) (mark i) (all_below_is n (λ k. implies (mark j && carries j k) (mark k)) row i lt) both in
    record {
      as_many = len;
      sound = λ i lt marked. (
        slice_index_or chains i [],
        leads_is at_root carries n i (slice_index_or chains i []) (implied (mark i) _ (all_below_is n chained (both_left (all_below n chained) (all_below n from_root) first) i lt) marked),
      );
      complete = λ i r. closed_marks at_root carries n marks roots carried i r.0 r.1;
    }

-- there is one such list of truth values
pub marks_one : (at_root : ℕ → Bool) (carries : ℕ → ℕ → Bool) (n : ℕ) (marks others : List Bool) → AreRooted at_root carries n marks → AreRooted at_root carries n others → marks ≡ others
marks_one at_root carries n marks others a b =
    let as_many : length marks ≡ length others = a.as_many ∙ sym b.as_many in
    ext_get_or false marks others as_many (λ i lt.
    let within : i < n = omega (arith, a.as_many) in
    same_answer (slice_index_or marks i false) (slice_index_or others i false) (λ h. b.complete i (a.sound i within h)) (λ h. a.complete i (b.sound i within h)))
