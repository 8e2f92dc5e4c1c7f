-- What is searched is free: a due spot has no device, and a winner's unit is not taken.
use Rattle.std.proofs.Common.{◌≡◌, ℕ, Bool, true, false, not, ◌&&◌, List, [], ◌∷◌, length, find, Option, Some, refl, sym, ◌∙◌, ap, cond}
use Rattle.cf_types.specs.declared.tables.Place.{Place}
use Rattle.run_rules.specs.declared.world.Setup.{Setup}
use Rattle.run_rules.specs.declared.world.Dev.{Dev}
use Rattle.run_rules.specs.declared.world.Position.{Position}
use Rattle.run_rules.specs.declared.world.Wanted.{Wanted}
use Rattle.run_rules.specs.declared.world.ParentRef.{ParentRef}
use Rattle.run_rules.specs.World.{has, is_number}
use Rattle.run_rules.specs.Search.{turns, is_before, is_due, is_open, is_occupied, passes_filter, found_at, due, is_best, is_candidate, value_of, winner, winner_at}
use Rattle.run_rules.specs.declared.world.Turn.{Turn}
use Rattle.std.proofs.Common.{◌<◌, ◌||◌}
use Rattle.std.proofs.lemmas.Bool.{not-true}
use Rattle.run_rules.proofs.Below.{and_both, find_below}

-- what is found passes the test
pub find_true : {A : Type 0} (p : A → Bool) (xs : List A) (x : A) → find p xs ≡ Some x → p x ≡ true
find_true p [] x e = absurd cc
find_true {A} p (y ∷ ys) x e = cases (λ k. find_true p ys x k) (p y) refl e
  where
    some_is : (a b : A) → Some a ≡ Some b → a ≡ b
    some_is a b e = cc

    cases : (find p ys ≡ Some x → p x ≡ true) → (b : Bool) → p y ≡ b → cond b (Some y) (find p ys) ≡ Some x → p x ≡ true
    cases more true here k = ap p (sym (some_is y x k)) ∙ here
    cases more false here k = more k

open_free : (a b o f : Bool) → (a && b && not o && f) ≡ true → o ≡ false
open_free a b o f h = not-true o (and_both (a && b) (not o) (and_both (a && b && not o) f h).0).1

pub due_free : (s : Setup) (live : List Dev) (absent hidden : List ℕ) (p : ℕ) (only : Option ℕ) (wanted : List Wanted) (from : Position) (t : Turn)
    → due s live absent hidden p only wanted from ≡ Some t → is_occupied live t.at.spot ≡ false
unfolding due is_due is_open
due_free s live absent hidden p only wanted from t e =
    let passes = find_true (λ u. not (is_before u.at from) && is_due s live absent hidden p wanted u) (turns s live p only) t e in
    let opens = and_both (is_open s.machine live absent hidden wanted t.at.spot) _ (and_both (not (is_before t.at from)) _ passes).1 in
    open_free (not (has absent t.at.spot)) (not (has hidden t.at.spot)) (is_occupied live t.at.spot) (passes_filter (found_at s.machine t.at.spot) wanted) opens.0

-- what is due passes the tests
due_passes : (s : Setup) (live : List Dev) (absent hidden : List ℕ) (p : ℕ) (only : Option ℕ) (wanted : List Wanted) (from : Position) (t : Turn)
    → due s live absent hidden p only wanted from ≡ Some t → (not (is_before t.at from) ≡ true) × (is_due s live absent hidden p wanted t ≡ true)
unfolding due
due_passes s live absent hidden p only wanted from t e =
    and_both (not (is_before t.at from)) (is_due s live absent hidden p wanted t)
    (find_true (λ u. not (is_before u.at from) && is_due s live absent hidden p wanted u) (turns s live p only) t e)

pub due_forward : (s : Setup) (live : List Dev) (absent hidden : List ℕ) (p : ℕ) (only : Option ℕ) (wanted : List Wanted) (from : Position) (t : Turn)
    → due s live absent hidden p only wanted from ≡ Some t → is_before t.at from ≡ false
due_forward s live absent hidden p only wanted from t e = not-true (is_before t.at from) (due_passes s live absent hidden p only wanted from t e).0

open_seen : (a h o f : Bool) → (a && not h && not o && f) ≡ true → h ≡ false
open_seen a h o f e = not-true h (and_both a (not h) (and_both (a && not h) (not o) (and_both (a && not h && not o) f e).0).0).1

-- its spot is not hidden
pub due_seen : (s : Setup) (live : List Dev) (absent hidden : List ℕ) (p : ℕ) (only : Option ℕ) (wanted : List Wanted) (from : Position) (t : Turn)
    → due s live absent hidden p only wanted from ≡ Some t → has hidden t.at.spot ≡ false
unfolding is_due is_open
due_seen s live absent hidden p only wanted from t e =
    let opens = and_both (is_open s.machine live absent hidden wanted t.at.spot) _ (due_passes s live absent hidden p only wanted from t e).1 in
    open_seen (not (has absent t.at.spot)) (has hidden t.at.spot) (is_occupied live t.at.spot) (passes_filter (found_at s.machine t.at.spot) wanted) opens.0

-- and on an indirect bus its row is the winner there
pub due_wins : (s : Setup) (live : List Dev) (absent hidden : List ℕ) (p : ℕ) (only : Option ℕ) (wanted : List Wanted) (from : Position) (t : Turn)
    → due s live absent hidden p only wanted from ≡ Some t → t.indirect ≡ true → is_number (winner_at s live p t.place t.at.spot) t.at.row ≡ true
unfolding is_due
due_wins s live absent hidden p only wanted from t e indirect =
    let both = and_both (is_open s.machine live absent hidden wanted t.at.spot) (not t.indirect || is_number (winner_at s live p t.place t.at.spot) t.at.row)
    (due_passes s live absent hidden p only wanted from t e).1 in
    rw indirect at both.1

pub winner_below : (s : Setup) (live : List Dev) (p : ParentRef) (place : Place) (x r : ℕ) → winner s live p place x ≡ Some r → r < length s.tables.rows
unfolding winner
winner_below s live p place x r e = find_below (is_best (is_candidate s live p place x) (λ q. value_of s q x) (length s.tables.rows)) (length s.tables.rows) r e
