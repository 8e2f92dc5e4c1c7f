-- A row has no reason exactly where it is the winner, and a reason is the first that applies.
use Rattle.std.proofs.Common.{◌≡◌, ◌<◌, ◌≤◌, ◌∙◌, ℕ, zero, suc, Bool, true, false, cond, not, ◌&&◌, ◌||◌, ◌==◌, nat_lt, if◌then◌else◌, List, [], ◌∷◌, find, length, Option, Some, None, is_some, option_map, refl, sym, ap, inl, inr, arith, ℤ}
use Rattle.std.specs.List.{list_any}
use Rattle.std.specs.Option.{is_none, option_or}
use Rattle.std.proofs.lemmas.Bool.{cases_lt}
use Rattle.std.proofs.lemmas.Bool.Decides.{nat_tests}
use Rattle.cf_types.specs.declared.tables.Locator.{Locator as Loc}
use Rattle.cf_types.specs.declared.tables.Place.{Place}
use Rattle.cf_types.specs.declared.tables.Row.{Row}
use Rattle.cf_types.specs.Locators.{fits_locator, locators_at, submatch}
use Rattle.cf_types.specs.Numbers.{below}
use Rattle.cf_types.proofs.ListLemmas.{slice_get_some}
use Rattle.run_rules.specs.declared.world.Dev.{Dev}
use Rattle.run_rules.specs.declared.world.ParentRef.{ParentRef}
use Rattle.run_rules.specs.declared.world.Setup.{Setup}
use Rattle.run_rules.specs.Search.{fits, found_at, is_candidate, is_live_row, is_taken, match_value, winner}
use Rattle.run_rules.specs.World.{driver_of, row_at}
use Rattle.run_rules.proofs.Below.{and_both, find-none}
use Rattle.match_reasons.specs.declared.reason.Reason.{Reason}
use Rattle.match_reasons.specs.declared.reason.Reason.TheVariants.{Parent, Locator as Missed, NoMatch, Taken, Beaten}
use Rattle.match_reasons.specs.Reasons.{beaten, first_of, fits_at, kept_off, missed_locator, no_match, other_parent, reason, reason_of, unit_taken}
use Rattle.match_reasons.proofs.Finds.{clash, none_below, past_end}
use Rattle.match_reasons.proofs.Bests.{no_candidate, winner_best}

-- ---- locators: submatch passes exactly where each locator fits

pub each_fits : (locs : List Loc) (values found : List ℤ) → submatch locs values found ≡ true → (i : ℕ) → i < length locs → fits_at locs values found i ≡ true
unfolding submatch
each_fits [] values found h i lt = absurd (omega arith)
each_fits (l ∷ locs) [] found h i lt = absurd cc
each_fits (l ∷ locs) (v ∷ values) [] h i lt = absurd cc
each_fits (l ∷ locs) (v ∷ values) (f ∷ found) h zero lt = (and_both (fits_locator l.default v f) (submatch locs values found) h).0
each_fits (l ∷ locs) (v ∷ values) (f ∷ found) h (suc i) lt = each_fits locs values found (and_both (fits_locator l.default v f) (submatch locs values found) h).1 i (omega arith)

pub all_fit : (locs : List Loc) (values found : List ℤ) → ((i : ℕ) → i < length locs → fits_at locs values found i ≡ true) → submatch locs values found ≡ true
unfolding submatch
all_fit [] values found h = refl
all_fit (l ∷ locs) [] found h = h 0 (omega arith)
all_fit (l ∷ locs) (v ∷ values) [] h = h 0 (omega arith)
all_fit (l ∷ locs) (v ∷ values) (f ∷ found) h =
    let here : fits_locator l.default v f ≡ true = h 0 (omega arith) in
    rw (here, all_fit locs values found (λ i lt. h (suc i) (omega arith))) refl

pub not_false : (b : Bool) → not b ≡ false → b ≡ true
not_false true h = refl
not_false false h = absurd cc

pub not_true : (b : Bool) → not b ≡ true → b ≡ false
not_true true h = absurd cc
not_true false h = refl

-- past the last locator nothing is wanted
fits_past : (locs : List Loc) (values found : List ℤ) (i : ℕ) → length locs ≤ i → fits_at locs values found i ≡ true
fits_past locs values found i le = rw (past_end locs i le) refl

pub none_missed : (locs : List Loc) (values found : List ℤ) → missed_locator locs values found ≡ None → (i : ℕ) → fits_at locs values found i ≡ true
none_missed locs values found e i = found_none (find test (below (length locs))) refl e
  where
    test : ℕ → Bool
    test = λ j. not (fits_at locs values found j)

    found_none : (o : Option ℕ) → find test (below (length locs)) ≡ o → option_map Missed o ≡ None → fits_at locs values found i ≡ true
    found_none (Some j) h k = absurd cc
    found_none None h k = elim (cases_lt i (length locs)) [
      | inl less ↦ not_false (fits_at locs values found i) (none_below test (length locs) h i less)
      | inr past ↦ fits_past locs values found i past
    ]

pub missed_none : (locs : List Loc) (values found : List ℤ) → submatch locs values found ≡ true → missed_locator locs values found ≡ None
missed_none locs values found h =
    ap (option_map Missed) (find-none (λ j. not (fits_at locs values found j)) (length locs) (λ i lt. rw (each_fits locs values found h i lt) refl))

-- ---- units: a row is live exactly where its unit is not taken

none_any : {A : Type 0} (p : A → Bool) (xs : List A) → find p xs ≡ None → list_any p xs ≡ false
none_any p [] e = refl
none_any p (y ∷ ys) e = at (λ h. none_any p ys h) (p y) e
  where
    at : (find p ys ≡ None → list_any p ys ≡ false) → (b : Bool) → cond b (Some y) (find p ys) ≡ None → (b || list_any p ys) ≡ false
    at more true h = absurd cc
    at more false h = more h

any_none : {A : Type 0} (p : A → Bool) (xs : List A) → list_any p xs ≡ false → find p xs ≡ None
any_none p [] e = refl
any_none p (y ∷ ys) e = at (λ h. any_none p ys h) (p y) e
  where
    at : (list_any p ys ≡ false → find p ys ≡ None) → (b : Bool) → (b || list_any p ys) ≡ false → cond b (Some y) (find p ys) ≡ None
    at more true h = absurd cc
    at more false h = more h

untaken_live : (s : Setup) (live : List Dev) (row : Row) → unit_taken s live row ≡ None → is_live_row s live row ≡ true
untaken_live s live row e = by_star row.star refl
  where
    tester : Dev → Bool
    tester = λ d. driver_of s d.row == row.device && d.unit == row.unit

    taken_by : (o : Option Dev) → find tester live ≡ o → option_map (λ d. Taken d.serial) o ≡ None → not (list_any tester live) ≡ true
    taken_by (Some d) h k = absurd cc
    taken_by None h k = rw (none_any tester live h) refl

    by_star : (b : Bool) → row.star ≡ b → (row.star || not (is_taken s live row.device row.unit)) ≡ true
    by_star true h = rw h refl
    by_star false h = rw h (taken_by (find tester live) refl (rw h at e))

live_untaken : (s : Setup) (live : List Dev) (row : Row) → is_live_row s live row ≡ true → unit_taken s live row ≡ None
live_untaken s live row e = by_star row.star refl
  where
    tester : Dev → Bool
    tester = λ d. driver_of s d.row == row.device && d.unit == row.unit

    by_star : (b : Bool) → row.star ≡ b → (if row.star then None else option_map (λ d. Taken d.serial) (find tester live)) ≡ None
    by_star true h = rw h refl
    by_star false h =
        let free : not (list_any tester live) ≡ true = rw h at e in
        rw (h, any_none tester live (not_true (list_any tester live) free)) refl

-- ---- a candidate has no reason but that it is beaten

four : (a b c d : Bool) → (a && b && c && d) ≡ true → (a ≡ true) × (b ≡ true) × (c ≡ true) × (d ≡ true)
four true true true true h = (refl, refl, refl, refl)
four true true true false h = absurd cc
four true true false d h = absurd cc
four true false c d h = absurd cc
four false b c d h = absurd cc

above_zero : (n : ℕ) → nat_lt 0 n ≡ true → (n == 0) ≡ false
above_zero n h = grind (arith, nat_tests)

not_zero : (n : ℕ) → (n == 0) ≡ false → nat_lt 0 n ≡ true
not_zero n h = grind (arith, nat_tests)

pub is_zero : (n : ℕ) → (n == 0) ≡ true → n ≡ 0
is_zero n h = grind (arith, nat_tests)

-- each test of a row that is a candidate passes
pub record Passes (s : Setup) (live : List Dev) (p : ParentRef) (place : Place) (x : ℕ) (row : Row) : Type 0 where
  pub free : is_live_row s live row ≡ true
  pub fits : fits s.tables p place row ≡ true
  pub locators : submatch (locators_at s.tables.attrs place) row.locs (found_at s.machine x) ≡ true
  pub matches : nat_lt 0 (match_value s.machine row.attach x) ≡ true

pub passes_of : (s : Setup) (live : List Dev) (p : ParentRef) (place : Place) (x r : ℕ) (row : Row) → row_at s r ≡ Some row → is_candidate s live p place x r ≡ true → Passes s live p place x row
unfolding is_candidate
passes_of s live p place x r row there h =
    let parts = four (is_live_row s live row) (fits s.tables p place row) (submatch (locators_at s.tables.attrs place) row.locs (found_at s.machine x))
    (nat_lt 0 (match_value s.machine row.attach x)) (rw there at h) in
    record { free = parts.0; fits = parts.1; locators = parts.2; matches = parts.3 }

pub candidate_of : (s : Setup) (live : List Dev) (p : ParentRef) (place : Place) (x r : ℕ) (row : Row) → row_at s r ≡ Some row → Passes s live p place x row → is_candidate s live p place x r ≡ true
unfolding is_candidate
candidate_of s live p place x r row there h = rw (there, h.free, h.fits, h.locators, h.matches) refl

-- the four reasons before that it is beaten
pub record AreNone (s : Setup) (live : List Dev) (p : ParentRef) (place : Place) (x : ℕ) (row : Row) : Type 0 where
  pub parent : other_parent s.tables p place row ≡ None
  pub locator : missed_locator (locators_at s.tables.attrs place) row.locs (found_at s.machine x) ≡ None
  pub matches : no_match s.machine x row ≡ None
  pub taken : unit_taken s live row ≡ None

pub none_of : (s : Setup) (live : List Dev) (p : ParentRef) (place : Place) (x : ℕ) (row : Row) → Passes s live p place x row → AreNone s live p place x row
none_of s live p place x row h = record {
  parent = rw h.fits refl;
  locator = missed_none (locators_at s.tables.attrs place) row.locs (found_at s.machine x) h.locators;
  matches = rw (above_zero (match_value s.machine row.attach x) h.matches) refl;
  taken = live_untaken s live row h.free;
}

pub no_parent : (s : Setup) (p : ParentRef) (place : Place) (row : Row) → other_parent s.tables p place row ≡ None → fits s.tables p place row ≡ true
no_parent s p place row e = at (fits s.tables p place row) e
  where
    at : (b : Bool) → (if b then None else Some Parent) ≡ None → b ≡ true
    at true h = refl
    at false h = absurd cc

pub matched : (n : ℕ) → (if n == 0 then Some NoMatch else None) ≡ None → (n == 0) ≡ false
matched n e = at (n == 0) e
  where
    at : (b : Bool) → (if b then Some NoMatch else None) ≡ None → b ≡ false
    at true h = absurd cc
    at false h = refl

pub passes_by : (s : Setup) (live : List Dev) (p : ParentRef) (place : Place) (x : ℕ) (row : Row) → AreNone s live p place x row → Passes s live p place x row
passes_by s live p place x row h = record {
  free = untaken_live s live row h.taken;
  fits = no_parent s p place row h.parent;
  locators = all_fit (locators_at s.tables.attrs place) row.locs (found_at s.machine x) (λ i lt. none_missed (locators_at s.tables.attrs place) row.locs (found_at s.machine x) h.locator i);
  matches = not_zero (match_value s.machine row.attach x) (matched (match_value s.machine row.attach x) h.matches);
}

-- ---- the first of four

none_four : (a b c d : Option Reason) → first_of (a ∷ b ∷ c ∷ d ∷ []) ≡ None → (a ≡ None) × (b ≡ None) × (c ≡ None) × (d ≡ None)
none_four (Some y) b c d h = absurd cc
none_four None (Some y) c d h = absurd cc
none_four None None (Some y) d h = absurd cc
none_four None None None (Some y) h = absurd cc
none_four None None None None h = (refl, refl, refl, refl)

four_none : (a b c d : Option Reason) → a ≡ None → b ≡ None → c ≡ None → d ≡ None → first_of (a ∷ b ∷ c ∷ d ∷ []) ≡ None
four_none a b c d f g h i = rw (f, g, h, i) refl

pub are_none : (s : Setup) (live : List Dev) (p : ParentRef) (place : Place) (x : ℕ) (row : Row) → kept_off s live p place x row ≡ None → AreNone s live p place x row
are_none s live p place x row e =
    let parts = none_four (other_parent s.tables p place row) (missed_locator (locators_at s.tables.attrs place) row.locs (found_at s.machine x)) (no_match s.machine x row) (unit_taken s live row) e in
    record { parent = parts.0; locator = parts.1; matches = parts.2; taken = parts.3 }

off_none : (s : Setup) (live : List Dev) (p : ParentRef) (place : Place) (x : ℕ) (row : Row) → AreNone s live p place x row → kept_off s live p place x row ≡ None
off_none s live p place x row none =
    four_none (other_parent s.tables p place row) (missed_locator (locators_at s.tables.attrs place) row.locs (found_at s.machine x)) (no_match s.machine x row) (unit_taken s live row)
    none.parent none.locator none.matches none.taken

-- a row is a candidate exactly where nothing keeps it off
pub off_candidate : (s : Setup) (live : List Dev) (p : ParentRef) (place : Place) (x r : ℕ) (row : Row) → row_at s r ≡ Some row → kept_off s live p place x row ≡ None → is_candidate s live p place x r ≡ true
off_candidate s live p place x r row there e = candidate_of s live p place x r row there (passes_by s live p place x row (are_none s live p place x row e))

pub candidate_off : (s : Setup) (live : List Dev) (p : ParentRef) (place : Place) (x r : ℕ) (row : Row) → row_at s r ≡ Some row → is_candidate s live p place x r ≡ true → kept_off s live p place x row ≡ None
candidate_off s live p place x r row there e = off_none s live p place x row (none_of s live p place x row (passes_of s live p place x r row there e))

pub candidate_is : (s : Setup) (live : List Dev) (p : ParentRef) (place : Place) (x r : ℕ) (row : Row) → row_at s r ≡ Some row → is_candidate s live p place x r ≡ is_none (kept_off s live p place x row)
candidate_is s live p place x r row there = by_reason (kept_off s live p place x row) refl
  where
    out : (b : Bool) (y : Reason) → is_candidate s live p place x r ≡ b → kept_off s live p place x row ≡ Some y → b ≡ false
    out false y h e = refl
    out true y h e = absurd (differ (sym (candidate_off s live p place x r row there h) ∙ e))
      where
        differ : None ≡ Some y → ⊥
        differ f = absurd cc

    by_reason : (o : Option Reason) → kept_off s live p place x row ≡ o → is_candidate s live p place x r ≡ is_none o
    by_reason None e = off_candidate s live p place x r row there e
    by_reason (Some y) e = out (is_candidate s live p place x r) y refl e

-- ---- the winner

pub same_true : (q r : ℕ) → (q == r) ≡ true → q ≡ r
same_true q r h = grind (arith, nat_tests)

true_same : (r : ℕ) → (r == r) ≡ true
true_same r = grind (arith, nat_tests)

pub winner_candidate : (s : Setup) (live : List Dev) (p : ParentRef) (place : Place) (x q : ℕ) → winner s live p place x ≡ Some q → is_candidate s live p place x q ≡ true
winner_candidate s live p place x q e = (winner_best s live p place x q e).candidate

wins : (s : Setup) (live : List Dev) (p : ParentRef) (place : Place) (x r : ℕ) (row : Row) → r < length s.tables.rows → row_at s r ≡ Some row
    → reason_of s live p place x r row ≡ None → winner s live p place x ≡ Some r
wins s live p place x r row lt there e = by_reason (kept_off s live p place x row) refl e
  where
    alone : (q : ℕ) (b : Bool) → (q == r) ≡ b → (if b then None else Some (Beaten q)) ≡ None → q ≡ r
    alone q true h k = same_true q r h
    alone q false h k = absurd cc

    at : (o : Option ℕ) → winner s live p place x ≡ o → is_candidate s live p place x r ≡ true → beaten o r ≡ None → winner s live p place x ≡ Some r
    at None h candidate k = absurd (clash (is_candidate s live p place x r) candidate (no_candidate s live p place x h r lt))
    at (Some q) h candidate k = h ∙ ap Some (alone q (q == r) refl k)

    by_reason : (o : Option Reason) → kept_off s live p place x row ≡ o → option_or o (beaten (winner s live p place x) r) ≡ None → winner s live p place x ≡ Some r
    by_reason (Some y) h k = absurd cc
    by_reason None h k = at (winner s live p place x) refl (off_candidate s live p place x r row there h) k

pub wins_alone : (s : Setup) (live : List Dev) (p : ParentRef) (place : Place) (x r : ℕ) → r < length s.tables.rows → reason s live p place x r ≡ None → winner s live p place x ≡ Some r
unfolding reason
wins_alone s live p place x r lt e = let found = slice_get_some s.tables.rows r lt in wins s live p place x r found.0 lt found.1 (rw found.1 at e)

pub alone_wins : (s : Setup) (live : List Dev) (p : ParentRef) (place : Place) (x r : ℕ) → r < length s.tables.rows → winner s live p place x ≡ Some r → reason s live p place x r ≡ None
unfolding reason
alone_wins s live p place x r lt e =
    let found = slice_get_some s.tables.rows r lt in
    let row : Row = found.0 in
    let off : kept_off s live p place x row ≡ None = candidate_off s live p place x r row found.1 (winner_candidate s live p place x r e) in
    let last : beaten (winner s live p place x) r ≡ None = rw (e, true_same r) refl in
    rw (found.1, off, last) refl

-- where there is no row there is no candidate
pub no_row : (s : Setup) (live : List Dev) (p : ParentRef) (place : Place) (x r : ℕ) → row_at s r ≡ None → is_candidate s live p place x r ≡ false
unfolding is_candidate
no_row s live p place x r none = rw none refl

pub none_from : {A : Type 0} (o : Option A) (r : Bool) → is_some o ≡ not r → r ≡ is_none o
none_from None true h = refl
none_from None false h = absurd cc
none_from (Some x) true h = absurd cc
none_from (Some x) false h = refl
