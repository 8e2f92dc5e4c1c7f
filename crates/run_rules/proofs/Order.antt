-- Serials increase, so that a device is found by halves.
use Rattle.std.proofs.Common.{◌≡◌, ◌≢◌, ℕ, zero, suc, ◌<◌, ◌≤◌, Bool, true, false, not, ◌||◌, ◌==◌, cond, Some, None, List, [], ◌∷◌, length, map, get_or, inl, inr, Less, Greater, refl, ap, sym, subst, eq-eqb, arith}
use Rattle.std.specs.Prelude.{Result, Ok, Err, MatchOption, ◌⊎◌, filter, remove, slice_set}
use Rattle.std.specs.Result.{result_ok}
use Rattle.std.specs.Ordering.{nat_cmp, ordering_index}
use Rattle.std.specs.List.{AllByRecursion}
use Rattle.std.specs.List.Sorted.{IsSearchInRange, IsBinarySearchResult, IsPartitionPoint, IsNonDecreasingBy}
use Rattle.std.proofs.lemmas.Bool.{cases_lt, eqb-false, ne_eqb}
use Rattle.std.proofs.lemmas.Bool.Decides.{nat_tests}
use Rattle.std.proofs.lemmas.Cmp.{ranked}
use Rattle.run_rules.specs.declared.world.Dev.{Dev}
use Rattle.run_rules.specs.After.{with_sleep}
use Rattle.run_rules.specs.World.{device_at, is_live}
use Rattle.run_rules.specs.Sound.{EachLater}
use Rattle.run_rules.proofs.Marked.{sleep_at, sleep_past}

pub all_at : (P : Dev → Type 0) (ds : List Dev) (i : ℕ) (x : Dev) → AllByRecursion P ds → i < length ds → P (get_or ds i x)
all_at P [] i x h lt = absurd (omega arith)
all_at P (d ∷ ds) zero x h lt = h.0
all_at P (d ∷ ds) (suc i) x h lt = all_at P ds i x h.1 (omega arith)

-- the later of two places has the greater serial
serials_rise : (ds : List Dev) (i j : ℕ) (x : Dev) → EachLater (λ d e. d.serial < e.serial) ds → i < j → j < length ds → (get_or ds i x).serial < (get_or ds j x).serial
serials_rise [] i j x h lt end = absurd (omega arith)
serials_rise (d ∷ ds) i zero x h lt end = absurd (omega arith)
serials_rise (d ∷ ds) zero (suc j) x h lt end = all_at (λ e. d.serial < e.serial) ds j x h.0 (omega arith)
serials_rise (d ∷ ds) (suc i) (suc j) x h lt end = serials_rise ds i j x h.1 (omega arith) (omega arith)

comparisons_rise : (ds : List Dev) (s : ℕ) → EachLater (λ d e. d.serial < e.serial) ds → IsNonDecreasingBy (λ d. ordering_index (nat_cmp d.serial s)) ds
comparisons_rise ds s h i j x le end =
    ranks (get_or ds i x).serial (get_or ds j x).serial (rise (λ lt. serials_rise ds i j x h lt end) (λ (e : i ≡ j). ap (λ k. (get_or ds k x).serial) e))
  where
    ranks : (m n : ℕ) → m ≤ n → ordering_index (nat_cmp m s) ≤ ordering_index (nat_cmp n s)
    ranks m n lt = grind (arith, nat_tests)

    rise : (i < j → (get_or ds i x).serial < (get_or ds j x).serial) → (i ≡ j → (get_or ds i x).serial ≡ (get_or ds j x).serial) → (get_or ds i x).serial ≤ (get_or ds j x).serial
    rise less same = grind (arith, less, same)

-- where each place has another serial, none is live
none_live : (ds : List Dev) (s : ℕ) → ((k : ℕ) (x : Dev) → k < length ds → (get_or ds k x).serial ≢ s) → is_live ds s ≡ false
none_live [] s h = refl
none_live (d ∷ ds) s h = rw (ne_eqb d.serial s (h 0 d (omega arith))) (none_live ds s (λ k x lt. h (suc k) x (omega arith)))

pub searched : (ds : List Dev) (s : ℕ) (r : Result ℕ ℕ) → EachLater (λ d e. d.serial < e.serial) ds → IsSearchInRange r (length ds) → IsBinarySearchResult (λ d. nat_cmp d.serial s) ds r
    → MatchOption (result_ok r) (is_live ds s ≡ false) (λ i. (i < length ds) × ((d : Dev) → (get_or ds i d).serial ≡ s))
searched ds s (Ok i) h lt found = (lt, λ d. ranked _ s _ (sym (found d)))
searched ds s (Err i) h lt parted = none_live ds s (λ k x end. other k x end (cases_lt k i))
  where
    parts : IsPartitionPoint (λ d. nat_cmp d.serial s ≡ Less) (λ d. nat_cmp d.serial s ≡ Greater) ds i
    parts = parted (comparisons_rise ds s h)

    other : (k : ℕ) (x : Dev) → k < length ds → (k < i) ⊎ (i ≤ k) → (get_or ds k x).serial ≢ s
    other k x end (inl less) =
        let low : (get_or ds k x).serial < s = ranked _ s _ (sym (parts.0 k x (omega arith) less)) in
        λ e. absurd (omega arith)
    other k x end (inr more) =
        let high : s < (get_or ds k x).serial = ranked _ s _ (sym (parts.1 k x more end)) in
        λ e. absurd (omega arith)

-- the device at its place
pub device_found : (ds : List Dev) (i s : ℕ) (x : Dev) → EachLater (λ d e. d.serial < e.serial) ds → i < length ds → (get_or ds i x).serial ≡ s → device_at ds s ≡ Some (get_or ds i x)
device_found [] i s x h lt is = absurd (omega arith)
device_found (d ∷ ds) zero s x h lt is = rw (eq-eqb d.serial s is) refl
device_found (d ∷ ds) (suc i) s x h lt is =
    let low : d.serial < (get_or ds i x).serial = all_at (λ e. d.serial < e.serial) ds i x h.0 (omega arith) in
    rw (ne_eqb d.serial s (λ e. absurd (omega arith))) (device_found ds i s x h.1 (omega arith) is)

pub live_found : (ds : List Dev) (i s : ℕ) (x : Dev) → i < length ds → (get_or ds i x).serial ≡ s → is_live ds s ≡ true
live_found [] i s x lt is = absurd (omega arith)
live_found (d ∷ ds) zero s x lt is = rw (eq-eqb d.serial s is) refl
live_found (d ∷ ds) (suc i) s x lt is = rw (live_found ds i s x (omega arith) is) (or_true (d.serial == s))
  where
    or_true : (b : Bool) → (b || true) ≡ true
    or_true true = refl
    or_true false = refl

pub device_missed : (ds : List Dev) (s : ℕ) → is_live ds s ≡ false → device_at ds s ≡ None
device_missed [] s h = refl
device_missed (d ∷ ds) s h = cases (d.serial == s) h (λ k. device_missed ds s k)
  where
    cases : (b : Bool) → (b || is_live ds s) ≡ false → (is_live ds s ≡ false → device_at ds s ≡ None) → cond b (Some d) (device_at ds s) ≡ None
    cases true k more = absurd cc
    cases false k more = more k

either_false : (a b : Bool) → (a || b) ≡ false → (a ≡ false) × (b ≡ false)
either_false true b h = absurd cc
either_false false b h = (refl, h)

-- ---- one goes

-- where every serial is another one nothing goes
none_gone : (s : ℕ) (ds : List Dev) → AllByRecursion (λ d. s < d.serial) ds → filter (λ d. not (d.serial == s)) ds ≡ ds
none_gone s [] h = refl
none_gone s (d ∷ ds) h =
    let low : s < d.serial = h.0 in
    let ne : (d.serial == s) ≡ false = ne_eqb d.serial s (λ e. absurd (omega arith)) in
    rw ne (ap (λ xs. d ∷ xs) (none_gone s ds h.1))

pub live_gone : (ds : List Dev) (i s : ℕ) (x : Dev) → EachLater (λ d e. d.serial < e.serial) ds → i < length ds → (get_or ds i x).serial ≡ s
    → remove ds i ≡ filter (λ d. not (d.serial == s)) ds
live_gone [] i s x h lt is = absurd (omega arith)
live_gone (d ∷ ds) zero s x h lt is =
    subst (λ n. ds ≡ filter (λ e. not (e.serial == n)) (d ∷ ds)) is (rw (eq-eqb d.serial d.serial refl) (sym (none_gone d.serial ds h.0)))
live_gone (d ∷ ds) (suc i) s x h lt is =
    let low : d.serial < (get_or ds i x).serial = all_at (λ e. d.serial < e.serial) ds i x h.0 (omega arith) in
    let ne : (d.serial == s) ≡ false = ne_eqb d.serial s (λ e. absurd (omega arith)) in
    rw ne (ap (λ xs. d ∷ xs) (live_gone ds i s x h.1 (omega arith) is))

pub none_goes : (ds : List Dev) (s : ℕ) → is_live ds s ≡ false → ds ≡ filter (λ d. not (d.serial == s)) ds
none_goes [] s h = refl
none_goes (d ∷ ds) s h =
    let parts = either_false (d.serial == s) (is_live ds s) h in
    rw parts.0 (ap (λ xs. d ∷ xs) (none_goes ds s parts.1))

-- ---- one falls asleep, or wakes

later_same : (ds : List Dev) (s : ℕ) (asleep : Bool) → AllByRecursion (λ e. s < e.serial) ds → map (with_sleep s asleep) ds ≡ ds
later_same [] s asleep h = refl
later_same (d ∷ ds) s asleep h =
    let low : s < d.serial = h.0 in
    rw (sleep_past s asleep d (λ e. absurd (omega arith))) (ap (λ es. d ∷ es) (later_same ds s asleep h.1))

pub one_rested : (ds : List Dev) (i s : ℕ) (asleep : Bool) (x : Dev) → EachLater (λ d e. d.serial < e.serial) ds → i < length ds → (get_or ds i x).serial ≡ s
    → slice_set ds i (record (get_or ds i x) { asleep = asleep }) ≡ map (with_sleep s asleep) ds
one_rested [] i s asleep x h lt is = absurd (omega arith)
one_rested (d ∷ ds) zero s asleep x h lt is =
    rw (sleep_at s asleep d is) (ap (λ es. (record d { asleep = asleep }) ∷ es) (sym (later_same ds s asleep (rw is at h.0))))
one_rested (d ∷ ds) (suc i) s asleep x h lt is =
    let low : d.serial < (get_or ds i x).serial = all_at (λ e. d.serial < e.serial) ds i x h.0 (omega arith) in
    rw (sleep_past s asleep d (λ e. absurd (omega arith))) (ap (λ es. d ∷ es) (one_rested ds i s asleep x h.1 (omega arith) is))

pub none_rested : (ds : List Dev) (s : ℕ) (asleep : Bool) → is_live ds s ≡ false → ds ≡ map (with_sleep s asleep) ds
none_rested [] s asleep h = refl
none_rested (d ∷ ds) s asleep h =
    let parts = either_false (d.serial == s) (is_live ds s) h in
    rw (sleep_past s asleep d (eqb-false d.serial s parts.0)) (ap (λ es. d ∷ es) (none_rested ds s asleep parts.1))
