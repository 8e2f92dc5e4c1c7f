-- Masks by serial: where one is found, and what a write, a new one and one less leave.
use Rattle.std.proofs.Common.{◌≡◌, ◌≢◌, ◌⊎◌, ℕ, zero, suc, ◌+◌, ◌<◌, ◌≤◌, Bool, true, false, ◌==◌, cond, find, Option, Some, None, List, [], ◌∷◌, ◌++◌, length, get_or, take, drop, refl, sym, ap, subst, ◌∙◌, inl, inr, eq-eqb, eqb-true, arith}
use Rattle.std.specs.Prelude.{slice_set, insert, remove}
use Rattle.std.specs.List.{AllByRecursion}
use Rattle.std.specs.List.Sorted.{IsNonDecreasingBy}
use Rattle.std.specs.Option.{option_map_or}
use Rattle.std.proofs.lemmas.Bool.{cases_lt, eqb-false, ne_eqb}
use Rattle.run_rules.specs.Sound.{EachLater}
use Rattle.ref_ledger.specs.declared.masks.Mask.{Mask}
use Rattle.ref_ledger.specs.Masks.{AreBySerial, IsGap, IsPlace, IsWritten, mask_in}

all_at : (P : Mask → Type 0) (ms : List Mask) (i : ℕ) (x : Mask) → AllByRecursion P ms → i < length ms → P (get_or ms i x)
all_at P [] i x h lt = absurd (omega arith)
all_at P (m ∷ ms) zero x h lt = h.0
all_at P (m ∷ ms) (suc i) x h lt = all_at P ms i x h.1 (omega arith)

all_from : (P : Mask → Type 0) (ms : List Mask) → ((k : ℕ) (d : Mask) → k < length ms → P (get_or ms k d)) → AllByRecursion P ms
all_from P [] h = tt
all_from P (m ∷ ms) h = (h 0 m (omega arith), all_from P ms (λ k d lt. h (suc k) d (omega arith)))

rises : (ms : List Mask) (i j : ℕ) (x : Mask) → AreBySerial ms → i < j → j < length ms → (get_or ms i x).serial < (get_or ms j x).serial
rises [] i j x h lt end = absurd (omega arith)
rises (m ∷ ms) i zero x h lt end = absurd (omega arith)
rises (m ∷ ms) zero (suc j) x h lt end = all_at (λ n. m.serial < n.serial) ms j x h.0 (omega arith)
rises (m ∷ ms) (suc i) (suc j) x h lt end = rises ms i j x h.1 (omega arith) (omega arith)

pub serials_rise : (ms : List Mask) → AreBySerial ms → IsNonDecreasingBy (λ m. m.serial) ms
serials_rise ms h i j x le end = by (λ lt. rises ms i j x h lt end) (λ (e : i ≡ j). ap (λ k. (get_or ms k x).serial) e)
  where
    by : (i < j → (get_or ms i x).serial < (get_or ms j x).serial) → (i ≡ j → (get_or ms i x).serial ≡ (get_or ms j x).serial) → (get_or ms i x).serial ≤ (get_or ms j x).serial
    by less same = grind (arith, less, same)

-- ---- one is found, or none is

pub mask_here : (ms : List Mask) (s p : ℕ) (d : Mask) → AreBySerial ms → p < length ms → (get_or ms p d).serial ≡ s → mask_in ms s ≡ (get_or ms p d).callers
mask_here [] s p d h lt is = absurd (omega arith)
mask_here (m ∷ ms) s zero d h lt is = rw (eq-eqb m.serial s is) refl
mask_here (m ∷ ms) s (suc p) d h lt is =
    let low : m.serial < (get_or ms p d).serial = all_at (λ n. m.serial < n.serial) ms p d h.0 (omega arith) in
    rw (ne_eqb m.serial s (λ e. absurd (omega arith))) (mask_here ms s p d h.1 (omega arith) is)

mask_apart : (ms : List Mask) (s : ℕ) → AllByRecursion (λ m. m.serial ≢ s) ms → mask_in ms s ≡ 0
mask_apart [] s h = refl
mask_apart (m ∷ ms) s h = rw (ne_eqb m.serial s h.0) (mask_apart ms s h.1)

pub gap_of : (ms : List Mask) (s p : ℕ) → AreBySerial ms → IsPlace ms s p → ((d : Mask) → p < length ms → (get_or ms p d).serial ≢ s) → IsGap ms s p
gap_of ms s p h place other = record {
  within = place.within;
  before = place.before;
  after = λ k d from end. by k d end (place.from k d from end) (cases_lt p k) from;
}
  where
    by : (k : ℕ) (d : Mask) → k < length ms → s ≤ (get_or ms k d).serial → (p < k) ⊎ (k ≤ p) → p ≤ k → s < (get_or ms k d).serial
    by k d end high (inl less) from =
        let low : s ≤ (get_or ms p d).serial = place.from p d (omega arith) (omega arith) in
        let up : (get_or ms p d).serial < (get_or ms k d).serial = rises ms p k d h less end in
        omega arith
    by k d end high (inr same) from =
        let here : p ≡ k = omega arith in
        let ne : (get_or ms k d).serial ≢ s = subst (λ i. (get_or ms i d).serial ≢ s) here (other d (omega arith)) in
        grind (arith, ne, high)

pub mask_none : (ms : List Mask) (s p : ℕ) → IsGap ms s p → mask_in ms s ≡ 0
mask_none ms s p gap = mask_apart ms s (all_from (λ m. m.serial ≢ s) ms (λ k d lt. by k d lt (cases_lt k p)))
  where
    by : (k : ℕ) (d : Mask) → k < length ms → (k < p) ⊎ (p ≤ k) → (get_or ms k d).serial ≢ s
    by k d lt (inl less) e = let low : (get_or ms k d).serial < s = gap.before k d (omega arith) less in omega arith
    by k d lt (inr from) e = let high : s < (get_or ms k d).serial = gap.after k d from lt in omega arith

-- ---- what a change leaves

abbrev value_of : Option Mask → ℕ
value_of o = option_map_or (λ m. m.callers) o 0

-- a first mask that is another's, before a change of the rest
other_first : (m : Mask) (s t callers rest new : ℕ) (old : List Mask) → m.serial < s → new ≡ cond (s == t) callers rest → mask_in old t ≡ rest
    → cond (m.serial == t) m.callers new ≡ cond (s == t) callers (cond (m.serial == t) m.callers rest)
other_first m s t callers rest new old low e f = by (m.serial == t) refl
  where
    by : (b : Bool) → (m.serial == t) ≡ b → cond b m.callers new ≡ cond (s == t) callers (cond b m.callers rest)
    by true here = let at : m.serial ≡ t = eqb-true m.serial t here in rw (ne_eqb s t (λ e. absurd (omega arith))) refl
    by false other = e

value_cond : (b : Bool) (m : Mask) (o : Option Mask) → value_of (cond b (Some m) o) ≡ cond b m.callers (value_of o)
value_cond true m o = refl
value_cond false m o = refl

first_is : (m : Mask) (ms : List Mask) (t : ℕ) → mask_in (m ∷ ms) t ≡ cond (m.serial == t) m.callers (mask_in ms t)
first_is m ms t = value_cond (m.serial == t) m (find (λ n. n.serial == t) ms)

-- a mask takes the place of the device's own
all_set : (P : Mask → Type 0) (ms : List Mask) (p : ℕ) (y : Mask) → AllByRecursion P ms → P y → AllByRecursion P (slice_set ms p y)
all_set P [] p y h here = tt
all_set P (m ∷ ms) zero y h here = (here, h.1)
all_set P (m ∷ ms) (suc p) y h here = (h.0, all_set P ms p y h.1 here)

order_set : (ms : List Mask) (p : ℕ) (y d : Mask) → AreBySerial ms → p < length ms → (get_or ms p d).serial ≡ y.serial → AreBySerial (slice_set ms p y)
order_set [] p y d h lt is = absurd (omega arith)
order_set (m ∷ ms) zero y d h lt is = (subst (λ n. AllByRecursion (λ k. n < k.serial) ms) is h.0, h.1)
order_set (m ∷ ms) (suc p) y d h lt is =
    let low : m.serial < (get_or ms p d).serial = all_at (λ n. m.serial < n.serial) ms p d h.0 (omega arith) in
    (all_set (λ n. m.serial < n.serial) ms p y h.0 (omega arith), order_set ms p y d h.1 (omega arith) is)

told_set : (ms : List Mask) (p : ℕ) (y d : Mask) (t : ℕ) → AreBySerial ms → p < length ms → (get_or ms p d).serial ≡ y.serial
    → mask_in (slice_set ms p y) t ≡ cond (y.serial == t) y.callers (mask_in ms t)
told_set [] p y d t h lt is = absurd (omega arith)
told_set (m ∷ ms) zero y d t h lt is = first_is y ms t ∙ by (y.serial == t) refl
  where
    by : (b : Bool) → (y.serial == t) ≡ b → cond b y.callers (mask_in ms t) ≡ cond b y.callers (mask_in (m ∷ ms) t)
    by true here = refl
    by false other = sym (first_is m ms t ∙ ap (λ c. cond c m.callers (mask_in ms t)) (ap (λ n. n == t) is ∙ other))
told_set (m ∷ ms) (suc p) y d t h lt is =
    let low : m.serial < (get_or ms p d).serial = all_at (λ n. m.serial < n.serial) ms p d h.0 (omega arith) in
    first_is m (slice_set ms p y) t ∙ other_first m y.serial t y.callers (mask_in ms t) (mask_in (slice_set ms p y) t) ms (omega arith) (told_set ms p y d t h.1 (omega arith) is) refl
    ∙ ap (cond (y.serial == t) y.callers) (sym (first_is m ms t))

pub written_set : (ms : List Mask) (p : ℕ) (y d : Mask) → AreBySerial ms → p < length ms → (get_or ms p d).serial ≡ y.serial → IsWritten ms y.serial y.callers (slice_set ms p y)
written_set ms p y d h lt is = record { order = order_set ms p y d h lt is; told = λ t. told_set ms p y d t h lt is }

-- a new mask
rest_gap : (m : Mask) (ms : List Mask) (s p : ℕ) → IsGap (m ∷ ms) s (suc p) → IsGap ms s p
rest_gap m ms s p gap = record {
  within = let within = gap.within in omega arith;
  before = λ k d from lt. gap.before (suc k) d (omega arith) (omega arith);
  after = λ k d from end. gap.after (suc k) d (omega arith) (omega arith);
}

all_insert : (P : Mask → Type 0) (ms : List Mask) (p : ℕ) (y : Mask) → AllByRecursion P ms → P y → AllByRecursion P (insert ms p y)
all_insert P [] zero y h here = (here, tt)
all_insert P [] (suc p) y h here = (here, tt)
all_insert P (m ∷ ms) zero y h here = (here, h)
all_insert P (m ∷ ms) (suc p) y h here = (h.0, all_insert P ms p y h.1 here)

order_insert : (ms : List Mask) (p : ℕ) (y : Mask) → AreBySerial ms → IsGap ms y.serial p → AreBySerial (insert ms p y)
order_insert [] zero y h gap = (tt, tt)
order_insert [] (suc p) y h gap = (tt, tt)
order_insert (m ∷ ms) zero y h gap = (all_from (λ n. y.serial < n.serial) (m ∷ ms) (λ k d lt. gap.after k d (omega arith) lt), h)
order_insert (m ∷ ms) (suc p) y h gap = (all_insert (λ n. m.serial < n.serial) ms p y h.0 (gap.before 0 m (omega arith) (omega arith)), order_insert ms p y h.1 (rest_gap m ms y.serial p gap))

told_insert : (ms : List Mask) (p : ℕ) (y : Mask) (t : ℕ) → IsGap ms y.serial p → mask_in (insert ms p y) t ≡ cond (y.serial == t) y.callers (mask_in ms t)
told_insert [] zero y t gap = first_is y [] t
told_insert [] (suc p) y t gap = first_is y [] t
told_insert (m ∷ ms) zero y t gap = first_is y (m ∷ ms) t
told_insert (m ∷ ms) (suc p) y t gap =
    first_is m (insert ms p y) t
    ∙ other_first m y.serial t y.callers (mask_in ms t) (mask_in (insert ms p y) t) ms (gap.before 0 m (omega arith) (omega arith)) (told_insert ms p y t (rest_gap m ms y.serial p gap)) refl
    ∙ ap (cond (y.serial == t) y.callers) (sym (first_is m ms t))

pub written_insert : (ms : List Mask) (p : ℕ) (y : Mask) → AreBySerial ms → IsGap ms y.serial p → IsWritten ms y.serial y.callers (insert ms p y)
written_insert ms p y h gap = record { order = order_insert ms p y h gap; told = λ t. told_insert ms p y t gap }

-- one mask less
all_remove : (P : Mask → Type 0) (ms : List Mask) (p : ℕ) → AllByRecursion P ms → AllByRecursion P (remove ms p)
all_remove P [] zero h = tt
all_remove P [] (suc p) h = tt
all_remove P (m ∷ ms) zero h = h.1
all_remove P (m ∷ ms) (suc p) h = (h.0, all_remove P ms p h.1)

order_remove : (ms : List Mask) (p : ℕ) → AreBySerial ms → AreBySerial (remove ms p)
order_remove [] zero h = tt
order_remove [] (suc p) h = tt
order_remove (m ∷ ms) zero h = h.1
order_remove (m ∷ ms) (suc p) h = (all_remove (λ n. m.serial < n.serial) ms p h.0, order_remove ms p h.1)

none_later : (ms : List Mask) (s : ℕ) → AllByRecursion (λ m. s < m.serial) ms → mask_in ms s ≡ 0
none_later [] s h = refl
none_later (m ∷ ms) s h = let low : s < m.serial = h.0 in rw (ne_eqb m.serial s (λ e. absurd (omega arith))) (none_later ms s h.1)

told_remove : (ms : List Mask) (p s : ℕ) (d : Mask) (t : ℕ) → AreBySerial ms → p < length ms → (get_or ms p d).serial ≡ s → mask_in (remove ms p) t ≡ cond (s == t) 0 (mask_in ms t)
told_remove [] p s d t h lt is = absurd (omega arith)
told_remove (m ∷ ms) zero s d t h lt is = by (s == t) refl
  where
    by : (b : Bool) → (s == t) ≡ b → mask_in ms t ≡ cond b 0 (mask_in (m ∷ ms) t)
    by true here = let at : m.serial ≡ t = is ∙ eqb-true s t here in ap (mask_in ms) (sym at) ∙ none_later ms m.serial h.0
    by false other = sym (first_is m ms t ∙ ap (λ c. cond c m.callers (mask_in ms t)) (ap (λ n. n == t) is ∙ other))
told_remove (m ∷ ms) (suc p) s d t h lt is =
    let low : m.serial < (get_or ms p d).serial = all_at (λ n. m.serial < n.serial) ms p d h.0 (omega arith) in
    first_is m (remove ms p) t ∙ other_first m s t 0 (mask_in ms t) (mask_in (remove ms p) t) ms (omega arith) (told_remove ms p s d t h.1 (omega arith) is) refl
    ∙ ap (cond (s == t) 0) (sym (first_is m ms t))

pub written_remove : (ms : List Mask) (p s : ℕ) (d : Mask) → AreBySerial ms → p < length ms → (get_or ms p d).serial ≡ s → IsWritten ms s 0 (remove ms p)
written_remove ms p s d h lt is = record { order = order_remove ms p h; told = λ t. told_remove ms p s d t h lt is }

-- a mask that is not there, and stays so
pub written_none : (ms : List Mask) (s : ℕ) → AreBySerial ms → mask_in ms s ≡ 0 → IsWritten ms s 0 ms
written_none ms s h none = record { order = h; told = λ t. by t (s == t) refl }
  where
    by : (t : ℕ) (b : Bool) → (s == t) ≡ b → mask_in ms t ≡ cond b 0 (mask_in ms t)
    by t true here = ap (mask_in ms) (sym (eqb-true s t here)) ∙ none
    by t false other = refl
