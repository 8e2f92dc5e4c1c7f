-- The mask of those who hold a device, after a reference is granted and after one is given back.
use Rattle.std.proofs.Common.{◌≡◌, ◌≢◌, ◌⊎◌, ℕ, zero, suc, ◌+◌, ◌-◌, ◌*◌, ◌^◌, ◌%◌, ◌<◌, ◌≤◌, ◌&&◌, ◌||◌, ◌==◌, not, Bool, true, false, List, [], ◌∷◌, ◌++◌, cond, find, filter, map, Option, Some, None, option_map, MatchOption, w16, bit_and, bit_or, refl, sym, ap, subst, ◌∙◌, inl, inr, eqb-true, arith}
use Rattle.std.specs.Int.{bit_at, bit_not}
use Rattle.std.specs.List.{All, AllByRecursion, list_any}
use Rattle.std.specs.Option.{option_map_or}
use Rattle.std.proofs.lemmas.Bool.{and_parts, both_ways, false_from_ne_true, and_right, cases_eq, cases_lt, eq-eqb, ne_eqb, or_cases, or_left, or_right}
use Rattle.std.proofs.lemmas.Bool.Decides.{nat_tests}
use Rattle.std.proofs.Math.Bool.{or-false, or-true}
use Rattle.std.proofs.lemmas.List.Elements.{All-head, All-tail}
use Rattle.std.proofs.lemmas.List.Folds.{list_any-append}
use Rattle.std.proofs.lemmas.Nat.{and_le_l, or_lt, one_shl, pow_pos}
use Rattle.std.proofs.lemmas.Nat.Bits.{bit_at-lt, bit_at-zero, bit_at_set_same, bit_at_set_other, bit_at_clear_same, bit_at_clear_other, same_from_bits_below}
use Rattle.run_rules.specs.declared.world.Ref.{Ref}
use Rattle.run_rules.specs.World.{holds_in, refers_to}
use Rattle.run_rules.specs.References.{given_back, hold_of, holder_mask, holds_on, is_of, possible_holders}
use Rattle.run_rules.specs.Sound.{EachLater}
use Rattle.run_rules.proofs.Holders.{bit_of_holder, holders_fit}
use Rattle.run_rules.proofs.References.{any_left}
use Rattle.ref_ledger.specs.Refs.{IsHolder, IsLeastHeld, ref_of}
use Rattle.ref_ledger.specs.declared.masks.Mask.{Mask}
use Rattle.ref_ledger.specs.Masks.{AreBySerial, AreMasksOf, IsWritten, bit_of, has_caller, mask_in, with_caller, without_caller}

abbrev value_of : Option Mask → ℕ
value_of o = option_map_or (λ m. m.callers) o 0

abbrev one_if : Bool → ℕ
one_if b = cond b 1 0

pub mask_is : (refs : List Ref) (s mask : ℕ) → mask < 2 ^ 16 → ((i : ℕ) → i < 16 → bit_at mask i ≡ one_if (holds_in refs (i + 1) s)) → mask ≡ holder_mask refs s
mask_is refs s mask fits bits = same_from_bits_below 16 mask (holder_mask refs s) fits (holders_fit refs s) (λ i lt. bits i lt ∙ sym (bit_of_holder refs s i lt))

same_mask : (refs others : List Ref) (s : ℕ) → ((k : ℕ) → holds_in refs k s ≡ holds_in others k s) → holder_mask refs s ≡ holder_mask others s
same_mask refs others s same = mask_is others s (holder_mask refs s) (holders_fit refs s) (λ i lt. bit_of_holder refs s i lt ∙ ap one_if (same (i + 1)))

pub no_mask : (refs : List Ref) (s : ℕ) → ((k : ℕ) → holds_in refs k s ≡ false) → holder_mask refs s ≡ 0
no_mask refs s none = sym (mask_is refs s 0 (pow_pos 16) (λ i lt. bit_at-zero i ∙ ap one_if (sym (none (i + 1)))))

-- ---- granted

one_more : (refs : List Ref) (s k j t : ℕ) → holds_in (refs ++ ref_of s k ∷ []) j t ≡ (holds_in refs j t || (s == t && k == j))
one_more refs s k j t = list_any-append (is_of j t) refs (ref_of s k ∷ []) ∙ ap (λ b. holds_in refs j t || b) (or-false (s == t && k == j))

granted_here : (refs : List Ref) (s k : ℕ) → IsHolder k → with_caller (holder_mask refs s) k ≡ holder_mask (refs ++ ref_of s k ∷ []) s
granted_here refs s k holder = mask_is (refs ++ ref_of s k ∷ []) s (with_caller (holder_mask refs s) k) fits (λ i lt. by i lt (cases_eq i (k - 1)))
  where
    within : k - 1 < 16
    within = omega arith

    fits : with_caller (holder_mask refs s) k < 2 ^ 16
    fits = or_lt 16 (holder_mask refs s) (bit_of k) (holders_fit refs s) (omega arith)

    by : (i : ℕ) → i < 16 → (i ≡ k - 1) ⊎ (i ≡ k - 1 → ⊥) → bit_at (with_caller (holder_mask refs s) k) i ≡ one_if (holds_in (refs ++ ref_of s k ∷ []) (i + 1) s)
    by i lt (inl same) =
        let caller : (k == i + 1) ≡ true = eq-eqb k (i + 1) (omega arith) in
        let held : holds_in (refs ++ ref_of s k ∷ []) (i + 1) s ≡ true = one_more refs s k (i + 1) s ∙ rw (eq-eqb s s refl, caller) (or-true (holds_in refs (i + 1) s)) in
        ap (bit_at (with_caller (holder_mask refs s) k)) same ∙ bit_at_set_same w16 (holder_mask refs s) (k - 1) within ∙ ap one_if (sym held)
    by i lt (inr other) =
        let caller : (k == i + 1) ≡ false = ne_eqb k (i + 1) (λ e. other (omega arith)) in
        let held : holds_in (refs ++ ref_of s k ∷ []) (i + 1) s ≡ holds_in refs (i + 1) s =
        one_more refs s k (i + 1) s ∙ ap (λ b. holds_in refs (i + 1) s || b) (and_right (s == s) (k == i + 1) caller) ∙ or-false (holds_in refs (i + 1) s) in
        bit_at_set_other w16 (holder_mask refs s) (k - 1) within i other ∙ bit_of_holder refs s i lt ∙ ap one_if (sym held)

granted_other : (refs : List Ref) (s k t : ℕ) → (s == t) ≡ false → holder_mask refs t ≡ holder_mask (refs ++ ref_of s k ∷ []) t
granted_other refs s k t other = same_mask refs (refs ++ ref_of s k ∷ []) t (λ j. sym (one_more refs s k j t ∙ rw other (or-false (holds_in refs j t))))

pub masks_granted : (refs : List Ref) (masks new : List Mask) (s k : ℕ) → AreMasksOf refs masks → IsHolder k → IsWritten masks s (with_caller (mask_in masks s) k) new
    → AreMasksOf (refs ++ ref_of s k ∷ []) new
masks_granted refs masks new s k are holder written = record { order = written.order; told = λ t. written.told t ∙ by t (s == t) refl }
  where
    by : (t : ℕ) (b : Bool) → (s == t) ≡ b → cond b (with_caller (mask_in masks s) k) (mask_in masks t) ≡ holder_mask (refs ++ ref_of s k ∷ []) t
    by t true here =
        ap (λ m. with_caller m k) (are.told s) ∙ granted_here refs s k holder ∙ ap (holder_mask (refs ++ ref_of s k ∷ [])) (eqb-true s t here)
    by t false other = are.told t ∙ granted_other refs s k t other

-- ---- given back

apart : (k s j t : ℕ) → ((s == t && k == j) ≡ false) → (r : Ref) → is_of k s r ≡ true → is_of j t r ≡ false
apart k s j t ne r is =
    let parts = and_parts (r.serial == s) (r.caller == k) is in
    rw (eqb-true r.serial s parts.0, eqb-true r.caller k parts.1) ne

left_other : (refs : List Ref) (k s j t : ℕ) → (s == t && k == j) ≡ false → holds_in refs j t ≡ holds_in (given_back refs k s) j t
left_other refs k s j t ne = sym (any_left (is_of k s) (is_of j t) refs (apart k s j t ne))

-- the caller still has one
pub masks_kept : (refs : List Ref) (masks : List Mask) (s k : ℕ) → AreMasksOf refs masks → holds_in refs k s ≡ true → holds_in (given_back refs k s) k s ≡ true → AreMasksOf (given_back refs k s) masks
masks_kept refs masks s k are held still = record { order = are.order; told = λ t. are.told t ∙ same_mask refs (given_back refs k s) t (λ j. by j t (s == t && k == j) refl) }
  where
    by : (j t : ℕ) (b : Bool) → (s == t && k == j) ≡ b → holds_in refs j t ≡ holds_in (given_back refs k s) j t
    by j t true here =
        let parts = and_parts (s == t) (k == j) here in
        rw (← eqb-true s t parts.0, ← eqb-true k j parts.1) (held ∙ sym still)
    by j t false other = left_other refs k s j t other

returned_here : (refs : List Ref) (s k : ℕ) → IsHolder k → holds_in (given_back refs k s) k s ≡ false → without_caller (holder_mask refs s) k ≡ holder_mask (given_back refs k s) s
returned_here refs s k holder gone = mask_is (given_back refs k s) s (without_caller (holder_mask refs s) k) fits (λ i lt. by i lt (cases_eq i (k - 1)))
  where
    within : k - 1 < 16
    within = omega arith

    fits : without_caller (holder_mask refs s) k < 2 ^ 16
    fits = omega (arith, and_le_l (holder_mask refs s) (bit_not w16 (bit_of k)), holders_fit refs s)

    by : (i : ℕ) → i < 16 → (i ≡ k - 1) ⊎ (i ≡ k - 1 → ⊥) → bit_at (without_caller (holder_mask refs s) k) i ≡ one_if (holds_in (given_back refs k s) (i + 1) s)
    by i lt (inl same) =
        let caller : i + 1 ≡ k = omega arith in
        ap (bit_at (without_caller (holder_mask refs s) k)) same ∙ bit_at_clear_same w16 (holder_mask refs s) (k - 1) within
        ∙ ap one_if (sym (ap (λ j. holds_in (given_back refs k s) j s) caller ∙ gone))
    by i lt (inr other) =
        let caller : (k == i + 1) ≡ false = ne_eqb k (i + 1) (λ e. other (omega arith)) in
        bit_at_clear_other w16 (holder_mask refs s) (k - 1) within i lt other ∙ bit_of_holder refs s i lt
        ∙ ap one_if (left_other refs k s (i + 1) s (and_right (s == s) (k == i + 1) caller))

pub masks_returned : (refs : List Ref) (masks new : List Mask) (s k : ℕ) → AreMasksOf refs masks → IsHolder k → holds_in (given_back refs k s) k s ≡ false
    → IsWritten masks s (without_caller (mask_in masks s) k) new → AreMasksOf (given_back refs k s) new
masks_returned refs masks new s k are holder gone written = record { order = written.order; told = λ t. written.told t ∙ by t (s == t) refl }
  where
    by : (t : ℕ) (b : Bool) → (s == t) ≡ b → cond b (without_caller (mask_in masks s) k) (mask_in masks t) ≡ holder_mask (given_back refs k s) t
    by t true here =
        ap (λ m. without_caller m k) (are.told s) ∙ returned_here refs s k holder gone ∙ ap (holder_mask (given_back refs k s)) (eqb-true s t here)
    by t false other = are.told t ∙ same_mask refs (given_back refs k s) t (λ j. left_other refs k s j t (ap (λ b. b && k == j) other))

-- ---- what a mask tells

-- only callers from 1 to 16 hold a device
pub holder_of : (refs : List Ref) (k s : ℕ) → All (λ r. IsHolder r.caller) refs → holds_in refs k s ≡ true → IsHolder k
holder_of [] k s all held = absurd cc
holder_of (r ∷ refs) k s all held = elim (or_cases (is_of k s r) (holds_in refs k s) held) [
  | inl here ↦ subst IsHolder (eqb-true r.caller k (and_parts (r.serial == s) (r.caller == k) here).1) (All-head (λ q. IsHolder q.caller) r refs all)
  | inr there ↦ holder_of refs k s (All-tail (λ q. IsHolder q.caller) r refs all) there
]

pub tells : (refs : List Ref) (k s : ℕ) → All (λ r. IsHolder r.caller) refs → has_caller (holder_mask refs s) k ≡ holds_in refs k s
tells refs k s all = by (holds_in refs k s) refl
  where
    bit : IsHolder k → bit_at (holder_mask refs s) (k - 1) ≡ one_if (holds_in refs k s)
    bit holder = let same : k - 1 + 1 ≡ k = omega arith in bit_of_holder refs s (k - 1) (omega arith) ∙ ap (λ j. one_if (holds_in refs j s)) same

    by : (b : Bool) → holds_in refs k s ≡ b → has_caller (holder_mask refs s) k ≡ b
    by true held = let holder : IsHolder k = holder_of refs k s all held in let one : bit_at (holder_mask refs s) (k - 1) ≡ 1 = bit holder ∙ ap one_if held in grind (arith, nat_tests)
    by false none = elim (cases_lt 0 k) [
      | inl above ↦ elim (cases_lt k 17) [
        | inl low ↦ let zero_bit : bit_at (holder_mask refs s) (k - 1) ≡ 0 = bit (omega arith, omega arith) ∙ ap one_if none in grind (arith, nat_tests)
        | inr high ↦ grind (arith, nat_tests)
      ]
      | inr zero_caller ↦ grind (arith, nat_tests)
    ]

pub empty_mask : (k : ℕ) → has_caller 0 k ≡ true → ⊥
empty_mask k h = let zero_bit : bit_at 0 (k - 1) ≡ 0 = bit_at-zero (k - 1) in grind (arith, nat_tests)

-- somebody holds a device exactly where its mask is not 0
pub holder_from : (refs : List Ref) (s : ℕ) → refers_to refs s ≡ true → (k : ℕ) × (holds_in refs k s ≡ true)
holder_from [] s some = absurd cc
holder_from (r ∷ refs) s some = elim (or_cases (r.serial == s) (refers_to refs s) some) [
  | inl here ↦ (r.caller, or_left (is_of r.caller s r) (holds_in refs r.caller s) (rw (here, eq-eqb r.caller r.caller refl) refl))
  | inr there ↦ let rest = holder_from refs s there in (rest.0, or_right (is_of rest.0 s r) (holds_in refs rest.0 s) rest.1)
]

pub none_holds : (refs : List Ref) (k s : ℕ) → refers_to refs s ≡ false → holds_in refs k s ≡ false
none_holds [] k s none = refl
none_holds (r ∷ refs) k s none = by (r.serial == s) refl none (none_holds refs k s)
  where
    by : (b : Bool) → (r.serial == s) ≡ b → (b || refers_to refs s) ≡ false → (refers_to refs s ≡ false → holds_in refs k s ≡ false) → ((r.serial == s && r.caller == k) || holds_in refs k s) ≡ false
    by true here clear rest = absurd cc
    by false other clear rest = rw other (rest clear)

pub refers_is : (refs : List Ref) (s : ℕ) → All (λ r. IsHolder r.caller) refs → refers_to refs s ≡ not (holder_mask refs s == 0)
refers_is refs s all = by (refers_to refs s) refl
  where
    by : (b : Bool) → refers_to refs s ≡ b → b ≡ not (holder_mask refs s == 0)
    by true some =
        let held = holder_from refs s some in
        let holder : IsHolder held.0 = holder_of refs held.0 s all held.1 in
        let has : has_caller (holder_mask refs s) held.0 ≡ true = tells refs held.0 s all ∙ held.1 in
        ap not (sym (ne_eqb (holder_mask refs s) 0 (λ e. empty_mask held.0 (sym (ap (λ m. has_caller m held.0) e) ∙ has))))
    by false none = ap (λ m. not (m == 0)) (sym (no_mask refs s (λ k. none_holds refs k s none)))

-- ---- the first of the devices that a caller holds

later_only : (masks : List Mask) (n k t : ℕ) → AllByRecursion (λ m. n < m.serial) masks → has_caller (mask_in masks t) k ≡ true → n < t
later_only [] n k t later has = absurd (empty_mask k has)
later_only (m ∷ ms) n k t later has = by (m.serial == t) refl has (later_only ms n k t later.1)
  where
    by : (b : Bool) → (m.serial == t) ≡ b → has_caller (value_of (cond b (Some m) (find (λ x. x.serial == t) ms))) k ≡ true → (has_caller (mask_in ms t) k ≡ true → n < t) → n < t
    by true here h more = let low : n < m.serial = later.0 in let same : m.serial ≡ t = eqb-true m.serial t here in omega arith
    by false other h more = more h

abbrev IsLeastWith : List Mask → ℕ → ℕ → Type 0
IsLeastWith masks k s = (has_caller (mask_in masks s) k ≡ true) × ((t : ℕ) → has_caller (mask_in masks t) k ≡ true → s ≤ t)

pub first_is_least : (masks : List Mask) (k : ℕ) → AreBySerial masks
    → MatchOption (option_map (λ (m : Mask). m.serial) (find (λ (m : Mask). has_caller m.callers k) masks)) ((s : ℕ) → has_caller (mask_in masks s) k ≡ false) (IsLeastWith masks k)
first_is_least [] k order = λ s. false_from_ne_true (has_caller 0 k) (λ has. empty_mask k has)
first_is_least (m ∷ ms) k order = by (has_caller m.callers k) refl (first_is_least ms k order.1)
  where
    at : (t : ℕ) (b : Bool) → (m.serial == t) ≡ b → mask_in (m ∷ ms) t ≡ cond b m.callers (mask_in ms t)
    at t true here = rw here refl
    at t false other = rw other refl

    rest : (o : Option ℕ) → has_caller m.callers k ≡ false → MatchOption o ((s : ℕ) → has_caller (mask_in ms s) k ≡ false) (IsLeastWith ms k)
        → MatchOption o ((s : ℕ) → has_caller (mask_in (m ∷ ms) s) k ≡ false) (IsLeastWith (m ∷ ms) k)
    rest None not_here none = λ s. each s (m.serial == s) refl
      where
        each : (s : ℕ) (b : Bool) → (m.serial == s) ≡ b → has_caller (mask_in (m ∷ ms) s) k ≡ false
        each s true here = ap (λ n. has_caller n k) (at s true here) ∙ not_here
        each s false other = ap (λ n. has_caller n k) (at s false other) ∙ none s
    rest (Some s) not_here least = (held (m.serial == s) refl, λ t. low t (m.serial == t) refl)
      where
        held : (b : Bool) → (m.serial == s) ≡ b → has_caller (mask_in (m ∷ ms) s) k ≡ true
        held true here =
            let after : m.serial < s = later_only ms m.serial k s order.0 least.0 in let same : m.serial ≡ s = eqb-true m.serial s here in absurd (omega arith)
        held false other = ap (λ n. has_caller n k) (at s false other) ∙ least.0

        low : (t : ℕ) (b : Bool) → (m.serial == t) ≡ b → has_caller (mask_in (m ∷ ms) t) k ≡ true → s ≤ t
        low t true here h = absurd (both_ways (has_caller m.callers k) not_here (sym (ap (λ n. has_caller n k) (at t true here)) ∙ h))
        low t false other h = least.1 t (sym (ap (λ n. has_caller n k) (at t false other)) ∙ h)

    by : (b : Bool) → has_caller m.callers k ≡ b → MatchOption (option_map (λ (x : Mask). x.serial) (find (λ (x : Mask). has_caller x.callers k) ms)) ((s : ℕ) → has_caller (mask_in ms s) k ≡ false) (IsLeastWith ms k)
        → MatchOption (option_map (λ (x : Mask). x.serial) (cond b (Some m) (find (λ (x : Mask). has_caller x.callers k) ms))) ((s : ℕ) → has_caller (mask_in (m ∷ ms) s) k ≡ false) (IsLeastWith (m ∷ ms) k)
    by true here more = (ap (λ n. has_caller n k) (at m.serial true (eq-eqb m.serial m.serial refl)) ∙ here, λ t. low t (m.serial == t) refl)
      where
        low : (t : ℕ) (b : Bool) → (m.serial == t) ≡ b → has_caller (mask_in (m ∷ ms) t) k ≡ true → m.serial ≤ t
        low t true same h = let e : m.serial ≡ t = eqb-true m.serial t same in omega arith
        low t false other h = let after : m.serial < t = later_only ms m.serial k t order.0 (sym (ap (λ n. has_caller n k) (at t false other)) ∙ h) in omega arith
    by false other more = rest (option_map (λ (x : Mask). x.serial) (find (λ (x : Mask). has_caller x.callers k) ms)) other more

-- in terms of the references
pub least_held : (refs : List Ref) (masks : List Mask) (k : ℕ) (o : Option ℕ) → All (λ r. IsHolder r.caller) refs → AreMasksOf refs masks
    → MatchOption o ((s : ℕ) → has_caller (mask_in masks s) k ≡ false) (IsLeastWith masks k) → MatchOption o ((s : ℕ) → holds_in refs k s ≡ false) (IsLeastHeld refs k)
least_held refs masks k None all are none = λ s. sym (tells_in s) ∙ none s
  where
    tells_in : (s : ℕ) → has_caller (mask_in masks s) k ≡ holds_in refs k s
    tells_in s = ap (λ m. has_caller m k) (are.told s) ∙ tells refs k s all
least_held refs masks k (Some s) all are least = record {
  held = sym (tells_in s) ∙ least.0;
  least = λ t h. least.1 t (tells_in t ∙ h);
}
  where
    tells_in : (t : ℕ) → has_caller (mask_in masks t) k ≡ holds_in refs k t
    tells_in t = ap (λ m. has_caller m k) (are.told t) ∙ tells refs k t all

-- nobody holds the device
filter_none : {A : Type 0} (p : A → Bool) (xs : List A) → ((x : A) → p x ≡ false) → filter p xs ≡ []
filter_none p [] none = refl
filter_none p (x ∷ xs) none = rw (none x) (filter_none p xs none)

pub no_holds : (refs : List Ref) (sole : List ℕ) (s : ℕ) → refers_to refs s ≡ false → holds_on refs sole s ≡ []
unfolding holds_on
no_holds refs sole s none = ap (map (hold_of refs sole s)) (filter_none (λ k. holds_in refs k s) possible_holders (λ k. none_holds refs k s none))

pub no_masks : AreMasksOf [] []
no_masks = record { order = tt; told = λ s. sym (no_mask [] s (λ k. refl)) }
