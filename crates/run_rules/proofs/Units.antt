-- Of as many numbers as there are live devices and one more, one is no device's unit.
use Rattle.std.proofs.Common.{◌≡◌, ℕ, zero, suc, ◌+◌, ◌<◌, ◌≤◌, Bool, true, false, not, ◌&&◌, ◌||◌, ◌==◌, cond, List, [], ◌∷◌, length, find, slice_get, sum_by, Option, Some, None, unwrap_or, refl, sym, ap, ◌∙◌, inl, inr, arith}
use Rattle.std.specs.List.{count_by}
use Rattle.std.specs.Option.{option_or}
use Rattle.std.proofs.lemmas.Bool.{cases_lt, eqb-true, false_from_ne_true}
use Rattle.std.proofs.lemmas.List.Folds.{find-append}
use Rattle.std.proofs.lemmas.List.Sums.{sum_by-append}
use Rattle.run_rules.specs.declared.world.Setup.{Setup}
use Rattle.run_rules.specs.declared.world.Dev.{Dev}
use Rattle.run_rules.specs.World.{driver_of}
use Rattle.cf_types.specs.Numbers.{below}
use Rattle.run_rules.specs.declared.world.ParentRef.{ParentRef}
use Rattle.cf_types.specs.declared.tables.Place.{Place}
use Rattle.cf_types.specs.declared.tables.Row.{Row}
use Rattle.std.specs.Prelude.{if◌then◌else◌}
use Rattle.std.specs.Option.{option_map_or}
use Rattle.run_rules.specs.Search.{is_taken, free_after, unit_of, is_best, is_live_row, is_candidate, value_of, winner}
use Rattle.run_rules.proofs.Below.{and_both, find-is, find-none}
use Rattle.run_rules.proofs.Free.{find_true}

-- ---- sums over the numbers below m

abbrev one_if : Bool → ℕ
one_if b = cond b 1 0

abbrev total : (ℕ → ℕ) → ℕ → ℕ
total f m = sum_by f (below m)

total_suc : (f : ℕ → ℕ) (m : ℕ) → total f (suc m) ≡ total f m + f m
total_suc f m = omega (arith, sum_by-append f (below m) (m ∷ []))

total_zero : (f : ℕ → ℕ) (m : ℕ) → ((k : ℕ) → k < m → f k ≡ 0) → total f m ≡ 0
total_zero f zero h = refl
total_zero f (suc m) h = omega (arith, total_suc f m, total_zero f m (λ k lt. h k (omega arith)), h m (omega arith))

total_plus : (f g h : ℕ → ℕ) (m : ℕ) → ((k : ℕ) → h k ≤ f k + g k) → total h m ≤ total f m + total g m
total_plus f g h zero le = omega arith
total_plus f g h (suc m) le = omega (arith, total_suc f m, total_suc g m, total_suc h m, total_plus f g h m le, le m)

total_ones : (f : ℕ → ℕ) (m : ℕ) → ((k : ℕ) → k < m → f k ≡ 1) → total f m ≡ m
total_ones f zero h = refl
total_ones f (suc m) h = omega (arith, total_suc f m, total_ones f m (λ k lt. h k (omega arith)), h m (omega arith))

-- ---- one device takes one number

abbrev hit : Bool → ℕ → ℕ → ℕ → ℕ
hit b u first k = one_if (b && u == first + k)

no_hit : (b : Bool) (u first k : ℕ) → first + k < u → hit b u first k ≡ 0
no_hit false u first k lt = refl
no_hit true u first k lt =
    let other : (u == first + k) ≡ false = false_from_ne_true (u == first + k) (λ is. let same = eqb-true u (first + k) is in omega arith) in
    rw other refl

one_hit : (b : Bool) (u first m : ℕ) → total (hit b u first) m ≤ 1
one_hit b u first zero = omega arith
one_hit b u first (suc m) = more (one_hit b u first m) (u == first + m) refl
  where
    small : (c : Bool) → one_if c ≤ 1
    small true = omega arith
    small false = omega arith

    never : (c : Bool) → one_if (c && false) ≡ 0
    never true = refl
    never false = refl

    more : total (hit b u first) m ≤ 1 → (c : Bool) → (u == first + m) ≡ c → total (hit b u first) (suc m) ≤ 1
    more less true e =
        let same : u ≡ first + m = eqb-true u (first + m) e in
        omega (arith, total_suc (hit b u first) m, total_zero (hit b u first) m (λ k lt. no_hit b u first k (omega arith)), small (b && u == first + m))
    more less false e =
        let miss : hit b u first m ≡ 0 = rw e (never b) in
        omega (arith, total_suc (hit b u first) m, less, miss)

-- ---- all devices together

either_le : (a b : Bool) → one_if (a || b) ≤ one_if a + one_if b
either_le true b = omega arith
either_le false true = omega arith
either_le false false = omega arith

abbrev takes : Setup → List Dev → ℕ → ℕ → ℕ → ℕ
takes s live device first k = one_if (is_taken s live device (first + k))

taken_few : (s : Setup) (live : List Dev) (device first m : ℕ) → total (takes s live device first) m ≤ length live
taken_few s [] device first m = omega (arith, total_zero (λ k. 0) m (λ k lt. refl))
taken_few s (d ∷ ds) device first m =
    omega (
      arith,
      total_plus (hit (driver_of s d.row == device) d.unit first) (takes s ds device first) (takes s (d ∷ ds) device first) m
          (λ k. either_le (driver_of s d.row == device && d.unit == first + k) (is_taken s ds device (first + k))),
      one_hit (driver_of s d.row == device) d.unit first m,
      taken_few s ds device first m,
    )

-- so few units of a device are taken, whatever test finds them
pub units_few : (s : Setup) (live : List Dev) (device n : ℕ) (test : ℕ → Bool) → ((k : ℕ) → test k ≡ is_taken s live device k) → count_by test (below n) ≤ length live
units_few s live device n test same =
    omega (
      arith,
      total_plus (takes s live device 0) (λ k. 0) (λ k. one_if (test k)) n (λ k. at_most k),
      total_zero (λ k. 0) n (λ k lt. refl),
      taken_few s live device 0 n,
    )
  where
    at_most : (k : ℕ) → one_if (test k) ≤ takes s live device 0 k + 0
    at_most k =
        let from : 0 + k ≡ k = omega arith in
        let here : takes s live device 0 k ≡ one_if (test k) = ap (λ i. one_if (is_taken s live device i)) from ∙ ap one_if (sym (same k)) in
        omega (arith, here)

-- ---- so one is free

none_below : (p : ℕ → Bool) (n : ℕ) → find p (below n) ≡ None → (q : ℕ) → q < n → p q ≡ false
none_below p zero e q lt = absurd (omega arith)
none_below p (suc n) e q lt = cases (λ h k. none_below p n h k) (find p (below n)) refl (sym (find-append p (below n) (n ∷ [])) ∙ e)
  where
    last : (b : Bool) → p n ≡ b → cond b (Some n) None ≡ None → p n ≡ false
    last true h k = absurd cc
    last false h k = h

    cases : (find p (below n) ≡ None → (k : ℕ) → k < n → p k ≡ false) → (o : Option ℕ) → find p (below n) ≡ o → option_or o (find p (n ∷ [])) ≡ None → p q ≡ false
    cases more (Some x) h k = absurd cc
    cases more None h k = elim (cases_lt q n) [ inl less ↦ more h q less | inr past ↦ let same : q ≡ n = omega arith in rw same (last (p n) refl k) ]

pub free_after_free : (s : Setup) (live : List Dev) (device first : ℕ) → is_taken s live device (first + free_after s live device first) ≡ false
unfolding free_after
free_after_free s live device first = found (find (λ k. not (is_taken s live device (first + k))) (below (suc (length live)))) refl
  where
    not_false : (b : Bool) → not b ≡ false → b ≡ true
    not_false true h = refl
    not_false false h = absurd cc

    not_true : (b : Bool) → not b ≡ true → b ≡ false
    not_true true h = absurd cc
    not_true false h = refl

    one : (b : Bool) → b ≡ true → one_if b ≡ 1
    one b e = rw e refl

    found : (o : Option ℕ) → find (λ k. not (is_taken s live device (first + k))) (below (suc (length live))) ≡ o → is_taken s live device (first + unwrap_or o 0) ≡ false
    found (Some k) e = not_true (is_taken s live device (first + k)) (find_true (λ k. not (is_taken s live device (first + k))) (below (suc (length live))) k e)
    found None e =
        let all : total (takes s live device first) (suc (length live)) ≡ suc (length live) =
        total_ones (takes s live device first) (suc (length live)) (λ k lt. one (is_taken s live device (first + k)) (not_false (is_taken s live device (first + k)) (none_below (λ k. not (is_taken s live device (first + k))) (suc (length live)) e k lt))) in
        absurd (omega (arith, all, taken_few s live device first (suc (length live))))

-- ---- the unit of a winner is free

live_free : (taken : Bool) → (false || not taken) ≡ true → taken ≡ false
live_free true h = absurd cc
live_free false h = refl

row_free : (s : Setup) (live : List Dev) (r : ℕ) (o : Option Row) (a b c : Row → Bool) → slice_get s.tables.rows r ≡ o
    → option_map_or (λ row. is_live_row s live row && a row && b row && c row) o false ≡ true
    → is_taken s live (driver_of s r) (unit_of s live r) ≡ false
unfolding unit_of
row_free s live r None a b c e h = absurd cc
row_free s live r (Some row) a b c e h =
    let lives = (and_both _ _ (and_both _ _ (and_both (is_live_row s live row && a row && b row) (c row) h).0).0).0 in
    rw e (cases row.star lives)
  where
    cases : (star : Bool) → (star || not (is_taken s live row.device row.unit)) ≡ true
        → is_taken s live row.device (if star then row.unit + free_after s live row.device row.unit else row.unit) ≡ false
    cases true k = free_after_free s live row.device row.unit
    cases false k = live_free (is_taken s live row.device row.unit) k

-- the unit of a candidate is free
pub candidate_free : (s : Setup) (live : List Dev) (p : ParentRef) (place : Place) (x r : ℕ) → is_candidate s live p place x r ≡ true → is_taken s live (driver_of s r) (unit_of s live r) ≡ false
unfolding is_candidate
candidate_free s live p place x r h = row_free s live r (slice_get s.tables.rows r) _ _ _ refl h

pub winner_free : (s : Setup) (live : List Dev) (p : ParentRef) (place : Place) (x r : ℕ) → winner s live p place x ≡ Some r → is_taken s live (driver_of s r) (unit_of s live r) ≡ false
unfolding winner
winner_free s live p place x r e =
    let won = find_true (is_best (is_candidate s live p place x) (λ q. value_of s q x) (length s.tables.rows)) (below (length s.tables.rows)) r e in
    candidate_free s live p place x r (and_both (is_candidate s live p place x r) _ won).0

-- ---- the search for it, number by number

negated : (b c : Bool) → b ≡ c → not b ≡ not c
negated b c e = rw e refl

pub free_after_is : (s : Setup) (live : List Dev) (device first k : ℕ) → k < suc (length live) → is_taken s live device (first + k) ≡ false
    → ((q : ℕ) → q < k → is_taken s live device (first + q) ≡ true) → free_after s live device first ≡ k
unfolding free_after
free_after_is s live device first k lt here before =
    let p : ℕ → Bool = λ q. not (is_taken s live device (first + q)) in
    rw (find-is p (suc (length live)) k lt (negated _ _ here) (λ q less. negated _ _ (before q less))) refl

pub free_after_none : (s : Setup) (live : List Dev) (device first : ℕ) → ((q : ℕ) → q < suc (length live) → is_taken s live device (first + q) ≡ true)
    → free_after s live device first ≡ 0
unfolding free_after
free_after_none s live device first all =
    let p : ℕ → Bool = λ q. not (is_taken s live device (first + q)) in
    rw (find-none p (suc (length live)) (λ q less. negated _ _ (all q less))) refl
