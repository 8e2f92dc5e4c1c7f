-- Which units a bitmap has, word by word.
use Rattle.std.proofs.Common.{◌≡◌, ◌<◌, ◌≤◌, ◌⊎◌, inl, inr, ◌+◌, ◌-◌, ◌*◌, ◌/◌, ◌%◌, ◌^◌, ℕ, zero, suc, Bool, true, false, not, ◌&&◌, ◌||◌, ◌==◌, nat_lt, List, [], ◌∷◌, cond, filter, length, max, slice_set, slice_index_or, bit_and, bit_or, w64, refl, sym, ◌∙◌, ap, arith}
use Rattle.std.specs.Int.{bit_at, bit_not, trailing_ones}
use Rattle.std.specs.List.{count_by}
use Rattle.std.proofs.lemmas.Bool.{cases_eq, cases_lt, eq-eqb, ne_eqb, lt-ltb, le-ltb}
use Rattle.std.proofs.lemmas.Bool.Decides.{nat_tests}
use Rattle.std.proofs.lemmas.List.{get_or_past, get_or-set_same, get_or-set_other}
use Rattle.std.proofs.lemmas.List.Elements.{filter-append}
use Rattle.std.proofs.lemmas.List.Folds.{list_any-append}
use Rattle.std.proofs.lemmas.List.Sums.{sum_by-append}
use Rattle.std.proofs.lemmas.Nat.{one_shl}
use Rattle.std.proofs.lemmas.Nat.Bits.{bit_at-zero, bit_at_ones, bit_at_set_same, bit_at_set_other, bit_at_clear_same, bit_at_clear_other, bit_at-lt, bit_at_or, bit_at_ones_above, bit_at-trailing_ones}
use Rattle.std.proofs.Math.Bool.{or-false, or-true, and-false}
use Rattle.cf_types.specs.Gather.{is_in}
use Rattle.cf_types.specs.Numbers.{below}
use Rattle.unit_alloc.specs.Taken.{AreFull, IsLeastFree, is_set, units_of}

-- ---- the list of the units

in_one : (test : ℕ → Bool) (m n : ℕ) → is_in n (filter test (m ∷ [])) ≡ ((m == n) && test n)
in_one test m n = by (cases_eq m n)
  where
    shut : (b : Bool) → (m == n) ≡ false → is_in n (cond b (m ∷ []) []) ≡ false
    shut true other = rw other refl
    shut false other = refl

    lets : (b : Bool) → (n == n) ≡ true → is_in n (cond b (n ∷ []) []) ≡ b
    lets true same = rw same refl
    lets false same = refl

    by : (m ≡ n) ⊎ (m ≡ n → ⊥) → is_in n (filter test (m ∷ [])) ≡ ((m == n) && test n)
    by (inl same) = rw same (lets (test n) (eq-eqb n n refl) ∙ ap (λ b. b && test n) (sym (eq-eqb n n refl)))
    by (inr other) = shut (test m) (ne_eqb m n other) ∙ ap (λ b. b && test n) (sym (ne_eqb m n other))

-- one number more
step : (b : Bool) (bound n : ℕ) → ((nat_lt n bound && b) || ((bound == n) && b)) ≡ (nat_lt n (suc bound) && b)
step true bound n = grind (arith, nat_tests)
step false bound n = rw (and-false (nat_lt n bound), and-false (bound == n), and-false (nat_lt n (suc bound))) refl

in_below : (test : ℕ → Bool) (bound n : ℕ) → is_in n (filter test (below bound)) ≡ (nat_lt n bound && test n)
in_below test zero n = ap (λ b. b && test n) (sym (le-ltb n 0 (omega arith)))
in_below test (suc bound) n =
    ap (is_in n) (filter-append test (below bound) (bound ∷ []))
    ∙ list_any-append (λ y. y == n) (filter test (below bound)) (filter test (bound ∷ []))
    ∙ rw (in_below test bound n, in_one test bound n) (step (test n) bound n)

-- a unit beyond the words is not set
pub beyond : (words : List ℕ) (n : ℕ) → 64 * length words ≤ n → is_set words n ≡ false
beyond words n past = rw (get_or_past words (n / 64) 0 (omega arith), bit_at-zero (n % 64)) refl

-- a unit is in the list exactly where its bit is set
pub set_is : (words : List ℕ) (n : ℕ) → is_in n (units_of words) ≡ is_set words n
unfolding units_of
set_is words n = in_below (is_set words) (64 * length words) n ∙ by (cases_lt n (64 * length words))
  where
    by : (n < 64 * length words) ⊎ (64 * length words ≤ n) → (nat_lt n (64 * length words) && is_set words n) ≡ is_set words n
    by (inl within) = rw (lt-ltb n (64 * length words) within) refl
    by (inr past) = rw (le-ltb n (64 * length words) past) (sym (beyond words n past))

-- a unit that is set is within the words
pub within : (words : List ℕ) (n : ℕ) → is_set words n ≡ true → n / 64 < length words
within words n set = elim (cases_lt n (64 * length words)) [
  | inl low ↦ omega arith
  | inr past ↦ absurd (let never = sym (beyond words n past) ∙ set in cc)
]

-- ---- one word

-- the units of a word that is full
pub full_word : (words : List ℕ) (n : ℕ) → slice_index_or words (n / 64) 0 ≡ 2 ^ 64 - 1 → is_set words n ≡ true
full_word words n full = ap (λ word. bit_at word (n % 64) == 1) full ∙ eq-eqb _ 1 (bit_at_ones 64 (n % 64) (omega arith))

-- ---- one unit more or less

abbrev word_at : List ℕ → ℕ → ℕ
word_at words n = slice_index_or words (n / 64) 0

abbrev with_unit : List ℕ → ℕ → List ℕ
with_unit words unit = slice_set words (unit / 64) (bit_or (word_at words unit) (1 * 2 ^ (unit % 64) % 2 ^ 64))

abbrev without_unit : List ℕ → ℕ → List ℕ
without_unit words unit = slice_set words (unit / 64) (bit_and (word_at words unit) (bit_not w64 (1 * 2 ^ (unit % 64) % 2 ^ 64)))

apart : (unit n : ℕ) → (n / 64 ≡ unit / 64 → ⊥) → (unit == n) ≡ false
apart unit n other = ne_eqb unit n (λ same. other (ap (λ k. k / 64) (sym same)))

pub set_more : (words : List ℕ) (unit n : ℕ) → unit / 64 < length words → is_set (with_unit words unit) n ≡ (is_set words n || unit == n)
set_more words unit n room = by (cases_eq (n / 64) (unit / 64))
  where
    word : ℕ
    word = word_at words unit

    bit : (k : ℕ) → n / 64 ≡ unit / 64 → (n % 64 ≡ unit % 64) ⊎ (n % 64 ≡ unit % 64 → ⊥) → (bit_at (bit_or word (1 * 2 ^ (unit % 64) % 2 ^ 64)) (n % 64) == 1) ≡ ((bit_at word (n % 64) == 1) || unit == n)
    bit k place (inl same) =
        let here : unit ≡ n = omega arith in
        ap (λ i. bit_at (bit_or word (1 * 2 ^ (unit % 64) % 2 ^ 64)) i == 1) same
        ∙ eq-eqb _ 1 (bit_at_set_same w64 word (unit % 64) (omega arith))
        ∙ sym (ap (λ b. (bit_at word (n % 64) == 1) || b) (eq-eqb unit n here) ∙ or-true (bit_at word (n % 64) == 1))
    bit k place (inr other) =
        ap (λ b. b == 1) (bit_at_set_other w64 word (unit % 64) (omega arith) (n % 64) other)
        ∙ sym (ap (λ b. (bit_at word (n % 64) == 1) || b) (ne_eqb unit n (λ same. other (ap (λ i. i % 64) (sym same)))) ∙ or-false (bit_at word (n % 64) == 1))

    by : (n / 64 ≡ unit / 64) ⊎ (n / 64 ≡ unit / 64 → ⊥) → is_set (with_unit words unit) n ≡ (is_set words n || unit == n)
    by (inl place) = rw (place, get_or-set_same words (unit / 64) (bit_or word (1 * 2 ^ (unit % 64) % 2 ^ 64)) 0 room) (bit 0 place (cases_eq (n % 64) (unit % 64)))
    by (inr place) =
        ap (λ w. bit_at w (n % 64) == 1) (get_or-set_other words (unit / 64) (n / 64) (bit_or word (1 * 2 ^ (unit % 64) % 2 ^ 64)) 0 place)
        ∙ sym (ap (λ b. is_set words n || b) (apart unit n place) ∙ or-false (is_set words n))

pub set_less : (words : List ℕ) (unit n : ℕ) → unit / 64 < length words → is_set (without_unit words unit) n ≡ (not (unit == n) && is_set words n)
set_less words unit n room = by (cases_eq (n / 64) (unit / 64))
  where
    word : ℕ
    word = word_at words unit

    cleared : ℕ
    cleared = bit_and word (bit_not w64 (1 * 2 ^ (unit % 64) % 2 ^ 64))

    bit : n / 64 ≡ unit / 64 → (n % 64 ≡ unit % 64) ⊎ (n % 64 ≡ unit % 64 → ⊥) → (bit_at cleared (n % 64) == 1) ≡ (not (unit == n) && (bit_at word (n % 64) == 1))
    bit place (inl same) =
        let here : unit ≡ n = omega arith in
        ap (λ i. bit_at cleared i == 1) same
        ∙ ap (λ b. b == 1) (bit_at_clear_same w64 word (unit % 64) (omega arith))
        ∙ sym (ap (λ b. not b && (bit_at word (n % 64) == 1)) (eq-eqb unit n here))
    bit place (inr other) =
        ap (λ b. b == 1) (bit_at_clear_other w64 word (unit % 64) (omega arith) (n % 64) (omega arith) other)
        ∙ sym (ap (λ b. not b && (bit_at word (n % 64) == 1)) (ne_eqb unit n (λ same. other (ap (λ i. i % 64) (sym same)))))

    by : (n / 64 ≡ unit / 64) ⊎ (n / 64 ≡ unit / 64 → ⊥) → is_set (without_unit words unit) n ≡ (not (unit == n) && is_set words n)
    by (inl place) = rw (place, get_or-set_same words (unit / 64) cleared 0 room) (bit place (cases_eq (n % 64) (unit % 64)))
    by (inr place) =
        ap (λ w. bit_at w (n % 64) == 1) (get_or-set_other words (unit / 64) (n / 64) cleared 0 place)
        ∙ sym (ap (λ b. not b && is_set words n) (apart unit n place))

-- ---- the least unit that is not set

-- a word in which the units below a place of it count as taken
pub record Sees (word seen low : ℕ) : Type 0 where
  pub below : (i : ℕ) → i < low → bit_at seen i ≡ 1
  pub same : (i : ℕ) → low ≤ i → bit_at seen i ≡ bit_at word i

pub sees_all : (word : ℕ) → Sees word word 0
sees_all word = record { below = λ i less. absurd (omega arith); same = λ i from. refl }

-- a run of ones, as it is computed
pub low_ones : (low : ℕ) → low < 64 → 1 * 2 ^ low % 2 ^ 64 - 1 ≡ 2 ^ low - 1
low_ones low less = ap (λ n. n - 1) (one_shl low 64 less)

pub sees_from : (word low : ℕ) → Sees word (bit_or word (2 ^ low - 1)) low
sees_from word low = record {
  below = λ i lt. bit_at_or word (2 ^ low - 1) i ∙ omega (arith, bit_at_ones low i lt, bit_at-lt word i);
  same = λ i from. bit_at_or word (2 ^ low - 1) i ∙ omega (arith, bit_at_ones_above low i from);
}

-- the place of the lowest bit that is clear
-- all units of a word that are counted as taken are so from the place on
pub full_from : (words : List ℕ) (first n : ℕ) → Sees (slice_index_or words (first / 64) 0) (2 ^ 64 - 1) (first % 64) → first ≤ n → n < 64 * (first / 64 + 1) → is_set words n ≡ true
full_from words first n sees from before =
    let place : n / 64 ≡ first / 64 = omega arith in
    let low : first % 64 ≤ n % 64 = omega arith in
    ap (λ p. bit_at (slice_index_or words p 0) (n % 64) == 1) place
    ∙ ap (λ b. b == 1) (sym (sees.same (n % 64) low) ∙ bit_at_ones 64 (n % 64) (omega arith))

pub clear_in : (words : List ℕ) (place seen low : ℕ) → Sees (slice_index_or words place 0) seen low → seen + 1 < 2 ^ 64
    → IsLeastFree (is_set words) (64 * place + low) (64 * place + trailing_ones w64 seen)
clear_in words place seen low sees less = record {
  from_first = elim (cases_lt at low) [
    | inl early ↦ absurd (omega (arith, sees.below at early, ones.1))
    | inr from ↦ omega arith
  ];
  free = elim (cases_lt at low) [
    | inl early ↦ absurd (omega (arith, sees.below at early, ones.1))
    | inr from ↦ in_word at ones.0 ∙ ap (λ b. b == 1) (sym (sees.same at from) ∙ ones.1)
  ];
  least = λ n from before.
      let place_is : n / 64 ≡ place = omega (arith, ones.0) in
      let low_from : low ≤ n % 64 = omega (arith, ones.0) in
      let before_at : n % 64 < at = omega (arith, ones.0) in
      ap (λ p. bit_at (slice_index_or words p 0) (n % 64) == 1) place_is ∙ ap (λ b. b == 1) (sym (sees.same (n % 64) low_from) ∙ ones.2 (n % 64) before_at);
}
  where
    at : ℕ
    at = trailing_ones w64 seen

    ones : (at < 64) × (bit_at seen at ≡ 0) × ((i : ℕ) → i < at → bit_at seen i ≡ 1)
    ones = bit_at-trailing_ones w64 seen less

    in_word : (k : ℕ) → k < 64 → is_set words (64 * place + k) ≡ (bit_at (slice_index_or words place 0) k == 1)
    in_word k lt =
        let q : (64 * place + k) / 64 ≡ place = omega arith in
        let r : (64 * place + k) % 64 ≡ k = omega arith in
        ap (λ p. bit_at (slice_index_or words p 0) ((64 * place + k) % 64) == 1) q ∙ ap (λ i. bit_at (slice_index_or words place 0) i == 1) r

-- the least one from a later number on, if all before it are set
pub further : (words : List ℕ) (first from result : ℕ) → first ≤ from → ((n : ℕ) → first ≤ n → n < from → is_set words n ≡ true) → IsLeastFree (is_set words) from result
    → IsLeastFree (is_set words) first result
further words first from result later set least = record {
  from_first = omega (arith, least.from_first);
  free = least.free;
  least = λ n low high. elim (cases_lt n from) [ inl before ↦ set n low before | inr behind ↦ least.least n behind high ];
}

-- the same of the list of the units, where all units of the first words are taken
pub picked : (words taken : List ℕ) (full first result : ℕ) → AreFull full words → units_of words ≡ taken → IsLeastFree (is_set words) (max first (64 * full)) result
    → IsLeastFree (λ n. is_in n taken) first result
picked words taken full first result kept view least = record {
  from_first = whole.from_first;
  free = told result ∙ whole.free;
  least = λ n low high. told n ∙ whole.least n low high;
}
  where
    whole : IsLeastFree (is_set words) first result
    whole = further words first (max first (64 * full)) result (omega arith) (λ n low high. kept.before n (omega arith)) least

    told : (n : ℕ) → is_in n taken ≡ is_set words n
    told n = ap (is_in n) (sym view) ∙ set_is words n
