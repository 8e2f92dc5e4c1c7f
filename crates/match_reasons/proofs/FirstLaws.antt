-- A reason that is told applies, and none before it does.
use Rattle.std.proofs.Common.{◌≡◌, ◌⊎◌, ◌<◌, ◌≤◌, ◌∙◌, ℕ, zero, suc, Bool, true, false, not, ◌&&◌, ◌==◌, nat_lt, if◌then◌else◌, List, [], ◌∷◌, find, length, slice_get, Option, Some, None, option_map, refl, ap, subst, inl, inr, arith, ℤ}
use Rattle.std.specs.Option.{option_or}
use Rattle.std.proofs.lemmas.Bool.{cases_lt}
use Rattle.std.proofs.lemmas.Bool.Decides.{nat_tests}
use Rattle.cf_types.specs.declared.tables.Locator.{Locator as Loc}
use Rattle.cf_types.specs.declared.tables.Place.{Place}
use Rattle.cf_types.specs.declared.tables.Row.{Row}
use Rattle.cf_types.specs.Locators.{locators_at}
use Rattle.cf_types.specs.Numbers.{below}
use Rattle.cf_types.proofs.ListLemmas.{found_passes}
use Rattle.run_rules.specs.declared.world.Dev.{Dev}
use Rattle.run_rules.specs.declared.world.ParentRef.{ParentRef}
use Rattle.run_rules.specs.declared.world.Setup.{Setup}
use Rattle.run_rules.specs.Search.{fits, found_at, is_candidate, match_value, value_of, winner}
use Rattle.run_rules.specs.World.{driver_of, row_at}
use Rattle.run_rules.proofs.Below.{and_both}
use Rattle.match_reasons.specs.declared.reason.Reason.{Reason}
use Rattle.match_reasons.specs.declared.reason.Reason.TheVariants.{Parent, Locator as Missed, NoMatch, Taken, Beaten}
use Rattle.match_reasons.specs.Laws.{Applies, HasUnit, IsBetter, IsFirst, precedes}
use Rattle.match_reasons.specs.Reasons.{beaten, first_of, fits_at, kept_off, missed_locator, no_match, other_parent, reason, reason_of, unit_taken}
use Rattle.match_reasons.proofs.Bests.{winner_best}
use Rattle.match_reasons.proofs.Finds.{before_found, clash, found_in, none_in}
use Rattle.match_reasons.proofs.ReasonLaws.{AreNone, are_none, candidate_of, is_zero, matched, no_parent, none_missed, not_false, not_true, passes_by, same_true}

less_true : (j i : ℕ) → nat_lt j i ≡ true → j < i
less_true j i h = grind (arith, nat_tests)

-- ---- no reason applies before each of them

before_parent : (s : Setup) (live : List Dev) (p : ParentRef) (place : Place) (x r : ℕ) (row : Row) (other : Reason)
    → precedes other Parent ≡ true → Applies s live p place x r row other → ⊥
before_parent s live p place x r row Parent before a = absurd cc
before_parent s live p place x r row (Missed i) before a = absurd cc
before_parent s live p place x r row NoMatch before a = absurd cc
before_parent s live p place x r row (Taken n) before a = absurd cc
before_parent s live p place x r row (Beaten q) before a = absurd cc

before_missed : (s : Setup) (live : List Dev) (p : ParentRef) (place : Place) (x r : ℕ) (row : Row) (i : ℕ)
    → other_parent s.tables p place row ≡ None
    → find (λ j. not (fits_at (locators_at s.tables.attrs place) row.locs (found_at s.machine x) j)) (below (length (locators_at s.tables.attrs place))) ≡ Some i
    → (other : Reason) → precedes other (Missed i) ≡ true → Applies s live p place x r row other → ⊥
before_missed s live p place x r row i fit e Parent before a = clash (fits s.tables p place row) (no_parent s p place row fit) a
before_missed s live p place x r row i fit e (Missed j) before a =
    let less : j < i = less_true j i before in
    clash (fits_at (locators_at s.tables.attrs place) row.locs (found_at s.machine x) j)
    (not_false _ (before_found (λ j. not (fits_at (locators_at s.tables.attrs place) row.locs (found_at s.machine x) j)) (length (locators_at s.tables.attrs place)) i e j less)) a
before_missed s live p place x r row i fit e NoMatch before a = absurd cc
before_missed s live p place x r row i fit e (Taken n) before a = absurd cc
before_missed s live p place x r row i fit e (Beaten q) before a = absurd cc

before_no_match : (s : Setup) (live : List Dev) (p : ParentRef) (place : Place) (x r : ℕ) (row : Row)
    → other_parent s.tables p place row ≡ None → missed_locator (locators_at s.tables.attrs place) row.locs (found_at s.machine x) ≡ None
    → (other : Reason) → precedes other NoMatch ≡ true → Applies s live p place x r row other → ⊥
before_no_match s live p place x r row fit met Parent before a = clash (fits s.tables p place row) (no_parent s p place row fit) a
before_no_match s live p place x r row fit met (Missed j) before a =
    clash (fits_at (locators_at s.tables.attrs place) row.locs (found_at s.machine x) j) (none_missed (locators_at s.tables.attrs place) row.locs (found_at s.machine x) met j) a
before_no_match s live p place x r row fit met NoMatch before a = absurd cc
before_no_match s live p place x r row fit met (Taken n) before a = absurd cc
before_no_match s live p place x r row fit met (Beaten q) before a = absurd cc

zero_clash : (n : ℕ) → (n == 0) ≡ false → n ≡ 0 → ⊥
zero_clash n h e = grind (arith, nat_tests)

before_taken : (s : Setup) (live : List Dev) (p : ParentRef) (place : Place) (x r : ℕ) (row : Row) (n : ℕ)
    → other_parent s.tables p place row ≡ None → missed_locator (locators_at s.tables.attrs place) row.locs (found_at s.machine x) ≡ None → no_match s.machine x row ≡ None
    → (other : Reason) → precedes other (Taken n) ≡ true → Applies s live p place x r row other → ⊥
before_taken s live p place x r row n fit met value Parent before a = clash (fits s.tables p place row) (no_parent s p place row fit) a
before_taken s live p place x r row n fit met value (Missed j) before a =
    clash (fits_at (locators_at s.tables.attrs place) row.locs (found_at s.machine x) j) (none_missed (locators_at s.tables.attrs place) row.locs (found_at s.machine x) met j) a
before_taken s live p place x r row n fit met value NoMatch before a = zero_clash (match_value s.machine row.attach x) (matched (match_value s.machine row.attach x) value) a
before_taken s live p place x r row n fit met value (Taken m) before a = absurd cc
before_taken s live p place x r row n fit met value (Beaten q) before a = absurd cc

-- no live device has the unit
nobody_has : (s : Setup) (live : List Dev) (row : Row) (n : ℕ) → unit_taken s live row ≡ None → HasUnit s live row n → ⊥
nobody_has s live row n e h = at (find tester live) refl (rw h.alone at e)
  where
    tester : Dev → Bool
    tester = λ d. driver_of s d.row == row.device && d.unit == row.unit

    same : (a b : ℕ) → a ≡ b → (a == b) ≡ true
    same a b e = grind (arith, nat_tests)

    both : (a b : Bool) → a ≡ true → b ≡ true → (a && b) ≡ true
    both a b g k = rw (g, k) refl

    at : (o : Option Dev) → find tester live ≡ o → option_map (λ d. Taken d.serial) o ≡ None → ⊥
    at (Some d) f k = absurd cc
    at None f k =
        clash (tester h.device) (both (driver_of s h.device.row == row.device) (h.device.unit == row.unit) (same (driver_of s h.device.row) row.device h.driver) (same h.device.unit row.unit h.unit))
        (none_in tester live h.device f h.lives)

before_beaten : (s : Setup) (live : List Dev) (p : ParentRef) (place : Place) (x r : ℕ) (row : Row) (q : ℕ) → AreNone s live p place x row
    → (other : Reason) → precedes other (Beaten q) ≡ true → Applies s live p place x r row other → ⊥
before_beaten s live p place x r row q none Parent before a = clash (fits s.tables p place row) (no_parent s p place row none.parent) a
before_beaten s live p place x r row q none (Missed j) before a =
    clash (fits_at (locators_at s.tables.attrs place) row.locs (found_at s.machine x) j) (none_missed (locators_at s.tables.attrs place) row.locs (found_at s.machine x) none.locator j) a
before_beaten s live p place x r row q none NoMatch before a = zero_clash (match_value s.machine row.attach x) (matched (match_value s.machine row.attach x) none.matches) a
before_beaten s live p place x r row q none (Taken n) before a = nobody_has s live row n none.taken a
before_beaten s live p place x r row q none (Beaten m) before a = absurd cc

-- ---- what each says is so

better_of : (v w q r : ℕ) → v ≤ w → (r < q → v < w) → (q == r) ≡ false → (v < w) ⊎ ((v ≡ w) × (q < r))
better_of v w q r most earlier differ = elim (cases_lt v w) [
  | inl less ↦ inl less
  | inr more ↦
      let equal : v ≡ w = omega (arith, most) in
      elim (cases_lt r q) [
        | inl before ↦ inl (earlier before)
        | inr behind ↦ let after : q < r = grind (arith, nat_tests) in inr (equal, after)
      ]
]

-- the winner is better than another candidate
winner_better : (s : Setup) (live : List Dev) (p : ParentRef) (place : Place) (x q r : ℕ) → winner s live p place x ≡ Some q → r < length s.tables.rows
    → is_candidate s live p place x r ≡ true → (q == r) ≡ false → IsBetter s live p place x q r
winner_better s live p place x q r e lt candidate differ =
    let best = winner_best s live p place x q e in
    record {
      candidate = best.candidate;
      better = better_of (value_of s r x) (value_of s q x) q r (best.no_greater r lt candidate) (λ before. best.no_earlier r before candidate) differ;
    }

taken_has : (s : Setup) (live : List Dev) (row : Row) (d : Dev) → row.star ≡ false → find (λ d. driver_of s d.row == row.device && d.unit == row.unit) live ≡ Some d → HasUnit s live row d.serial
taken_has s live row d alone e =
    let both = and_both (driver_of s d.row == row.device) (d.unit == row.unit) (found_passes (λ (d : Dev). driver_of s d.row == row.device && d.unit == row.unit) live d e) in
    record {
      alone = alone;
      device = d;
      lives = found_in (λ (d : Dev). driver_of s d.row == row.device && d.unit == row.unit) live d e;
      serial = refl;
      driver = same_true (driver_of s d.row) row.device both.0;
      unit = same_true d.unit row.unit both.1;
    }

-- ---- the first of five is one of them, and those before it are none

pub first_is : (s : Setup) (live : List Dev) (p : ParentRef) (place : Place) (x r : ℕ) (row : Row) (why : Reason) → r < length s.tables.rows → row_at s r ≡ Some row
    → reason_of s live p place x r row ≡ Some why → IsFirst s live p place x r row why
first_is s live p place x r row why lt there =
    by_reason (kept_off s live p place x row) refl
  where
    locs : List Loc
    locs = locators_at s.tables.attrs place

    found : List ℤ
    found = found_at s.machine x

    First : Reason → Type 0
    First = IsFirst s live p place x r row

    given : (z y : Reason) → Some z ≡ Some y → First z → First y
    given z y e h = let same : z ≡ y = cc in subst First same h

    parent : (b : Bool) (y : Reason) → fits s.tables p place row ≡ b → (if b then None else Some Parent) ≡ Some y → First y
    parent true y h e = absurd cc
    parent false y h e = let same : Parent ≡ y = cc in subst First same (record { applies = h; first = before_parent s live p place x r row })

    missed : (o : Option ℕ) (y : Reason) → other_parent s.tables p place row ≡ None → find (λ j. not (fits_at locs row.locs found j)) (below (length locs)) ≡ o → option_map Missed o ≡ Some y → First y
    missed None y fit h e = absurd cc
    missed (Some i) y fit h e =
        let same : Missed i ≡ y = cc in
        subst First same (record {
          applies = not_true (fits_at locs row.locs found i) (found_passes (λ j. not (fits_at locs row.locs found j)) (below (length locs)) i h);
          first = before_missed s live p place x r row i fit h;
        })

    unmatched : (b : Bool) (y : Reason) → other_parent s.tables p place row ≡ None → missed_locator locs row.locs found ≡ None → (match_value s.machine row.attach x == 0) ≡ b
        → (if b then Some NoMatch else None) ≡ Some y → First y
    unmatched false y fit met h e = absurd cc
    unmatched true y fit met h e =
        let same : NoMatch ≡ y = cc in
        subst First same (record { applies = is_zero (match_value s.machine row.attach x) h; first = before_no_match s live p place x r row fit met })

    tester : Dev → Bool
    tester = λ d. driver_of s d.row == row.device && d.unit == row.unit

    taken : (b : Bool) (o : Option Dev) (y : Reason) → other_parent s.tables p place row ≡ None → missed_locator locs row.locs found ≡ None → no_match s.machine x row ≡ None
        → row.star ≡ b → find tester live ≡ o → (if b then None else option_map (λ d. Taken d.serial) o) ≡ Some y → First y
    taken true o y fit met value star h e = absurd cc
    taken false None y fit met value star h e = absurd cc
    taken false (Some d) y fit met value star h e =
        let same : Taken d.serial ≡ y = cc in
        subst First same (record { applies = taken_has s live row d star h; first = before_taken s live p place x r row d.serial fit met value })

    other : (q : ℕ) (b : Bool) (y : Reason) → AreNone s live p place x row → winner s live p place x ≡ Some q → (q == r) ≡ b → (if b then None else Some (Beaten q)) ≡ Some y → First y
    other q true y none h differ e = absurd cc
    other q false y none h differ e =
        let same : Beaten q ≡ y = cc in
        subst First same (record {
          applies = winner_better s live p place x q r h lt (candidate_of s live p place x r row there (passes_by s live p place x row none)) differ;
          first = before_beaten s live p place x r row q none;
        })

    beat : (o : Option ℕ) (y : Reason) → AreNone s live p place x row → winner s live p place x ≡ o → beaten o r ≡ Some y → First y
    beat None y none h e = absurd cc
    beat (Some q) y none h e = other q (q == r) y none h refl e

    -- the first of four
    four : (a : Option Reason) → other_parent s.tables p place row ≡ a → (b : Option Reason) → missed_locator locs row.locs found ≡ b → (c : Option Reason) → no_match s.machine x row ≡ c
        → (d : Option Reason) → unit_taken s live row ≡ d → (y : Reason) → first_of (a ∷ b ∷ c ∷ d ∷ []) ≡ Some y → First y
    four (Some z) f b g c h d i y told = given z y told (parent (fits s.tables p place row) z refl f)
    four None f (Some z) g c h d i y told = given z y told (missed (find (λ j. not (fits_at locs row.locs found j)) (below (length locs))) z f refl g)
    four None f None g (Some z) h d i y told = given z y told (unmatched (match_value s.machine row.attach x == 0) z f g refl h)
    four None f None g None h (Some z) i y told = given z y told (taken row.star (find tester live) z f g h refl refl i)
    four None f None g None h None i y told = absurd cc

    by_reason : (o : Option Reason) → kept_off s live p place x row ≡ o → option_or o (beaten (winner s live p place x) r) ≡ Some why → First why
    by_reason (Some y) h told =
        let same : y ≡ why = cc in
        four (other_parent s.tables p place row) refl (missed_locator locs row.locs found) refl (no_match s.machine x row) refl (unit_taken s live row) refl why (h ∙ ap Some same)
    by_reason None h told = beat (winner s live p place x) why (are_none s live p place x row h) refl told

row_below : {A : Type 0} (xs : List A) (i : ℕ) (y : A) → slice_get xs i ≡ Some y → i < length xs
row_below [] i y e = absurd cc
row_below (x ∷ xs) zero y e = omega arith
row_below (x ∷ xs) (suc i) y e = let rest : i < length xs = row_below xs i y e in omega arith

pub first_reason : (s : Setup) (live : List Dev) (p : ParentRef) (place : Place) (x r : ℕ) (row : Row) (why : Reason)
    → row_at s r ≡ Some row → reason s live p place x r ≡ Some why → IsFirst s live p place x r row why
unfolding reason
first_reason s live p place x r row why there e = first_is s live p place x r row why (row_below s.tables.rows r row there) there (rw there at e)
