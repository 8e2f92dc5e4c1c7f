-- A search goes on from turn to turn: what the next turn tells of the first turn that passes a test, and that fewer turns are left behind it.
use Rattle.std.proofs.Common.{◌≡◌, ℕ, ◌<◌, ◌≤◌, ◌⊎◌, inl, inr, Bool, true, false, not, ◌&&◌, List, [], ◌∷◌, length, filter, find, cond, Option, Some, None, refl, sym, subst, ap, ◌∙◌, arith}
use Rattle.std.specs.Prelude.{IfSome}
use Rattle.std.proofs.lemmas.Bool.{not-false, not-true}
use Rattle.run_rules.proofs.Each.{find_alike, all_found}
use Rattle.cf_types.specs.declared.machine.Machine.{Machine}
use Rattle.cf_types.specs.declared.tables.Tables.{Tables}
use Rattle.cf_types.specs.Offers.{interfaces}
use Rattle.run_rules.specs.declared.world.Setup.{Setup}
use Rattle.run_rules.specs.declared.world.Dev.{Dev}
use Rattle.run_rules.specs.declared.world.Wanted.{Wanted}
use Rattle.run_rules.specs.declared.world.Position.{Position}
use Rattle.run_rules.specs.declared.world.Turn.{Turn}
use Rattle.run_rules.specs.Search.{is_before, turns_of, turns, driver_at, attach_at, spot_of, is_due, due}
use Rattle.run_rules.specs.Sound.{EachLater}
use Rattle.run_rules.proofs.Free.{find_true}
use Rattle.scan_engine.specs.Turns.{IsTurn, past, turns_after}
use Rattle.scan_engine.proofs.Positions.{before_later, before_past, past_behind, after_from, after_past}
use Rattle.scan_engine.proofs.Order.{all_weaken}
use Rattle.scan_engine.proofs.TurnsOf.{Earlier, in_order, all_turns}

-- ---- the first that passes one test, and the first that passes two

-- the first of all is it, or it comes later
first_or_later : {A : Type 0} (p : A → Bool) (x : A) (xs : List A) (t : A) → find p (x ∷ xs) ≡ Some t → ((p x ≡ true) × (x ≡ t)) ⊎ ((p x ≡ false) × (find p xs ≡ Some t))
first_or_later {A} p x xs t h = cases (p x) refl h
  where
    same : (a b : A) → Some a ≡ Some b → a ≡ b
    same a b e = cc

    cases : (b : Bool) → p x ≡ b → cond b (Some x) (find p xs) ≡ Some t → ((p x ≡ true) × (x ≡ t)) ⊎ ((p x ≡ false) × (find p xs ≡ Some t))
    cases true e k = inl (e, same x t k)
    cases false e k = inr (e, k)

-- none passes one test, so none passes both
pub find_none : {A : Type 0} (p q : A → Bool) (xs : List A) → find p xs ≡ None → find (λ x. p x && q x) xs ≡ None
find_none p q [] h = refl
find_none {A} p q (x ∷ xs) h = cases (p x) h (find_none p q xs)
  where
    cases : (b : Bool) → cond b (Some x) (find p xs) ≡ None → (find p xs ≡ None → find (λ y. p y && q y) xs ≡ None) → cond (b && q x) (Some x) (find (λ y. p y && q y) xs) ≡ None
    cases true k more = absurd cc
    cases false k more = more k

-- the first that passes one test passes the other
pub find_taken : {A : Type 0} (p q : A → Bool) (xs : List A) (t : A) → find p xs ≡ Some t → q t ≡ true → find (λ x. p x && q x) xs ≡ Some t
find_taken p q [] t h k = absurd cc
find_taken p q (x ∷ xs) t h k =
    elim (first_or_later p x xs t h) [
      | inl here ↦ rw (here.0, here.1, k) refl
      | inr later ↦ rw later.0 (find_taken p q xs t later.1 k)
    ]

-- it does not pass the other: the search goes on with a test that what is before it fails, and what comes later passes
find_passed : {A : Type 0} (R : A → A → Type 0) (p p' q : A → Bool) (xs : List A) (t : A) → EachLater R xs → find p xs ≡ Some t → q t ≡ false
    → ((x : A) → p x ≡ false → p' x ≡ false) → p' t ≡ false → ((x : A) → R t x → (p x ≡ true) × (p' x ≡ true))
    → find (λ x. p x && q x) xs ≡ find (λ x. p' x && q x) xs
find_passed R p p' q [] t order h k before here later = refl
find_passed R p p' q (x ∷ xs) t order h k before at later =
    elim (first_or_later p x xs t h) [
      | inl here ↦
          let now : p' x ≡ false = ap p' here.1 ∙ at in
          let fails : q x ≡ false = ap q here.1 ∙ k in
          rw (here.0, now, fails)
          (find_alike (λ y. p y && q y) (λ y. p' y && q y) xs
          (all_weaken (R x) (λ y. (p y && q y) ≡ (p' y && q y)) xs (λ y r. let both = later y (subst (λ z. R z y) here.1 r) in rw (both.0, both.1) refl) order.0))
      | inr more ↦ rw (more.0, before x more.0) (find_passed R p p' q xs t order.1 more.1 k before at later)
    ]

fewer_or_same : {A : Type 0} (p p' : A → Bool) (xs : List A) → ((x : A) → p x ≡ false → p' x ≡ false) → length (filter p' xs) ≤ length (filter p xs)
fewer_or_same p p' [] h = omega arith
fewer_or_same p p' (x ∷ xs) h = cases (p x) (p' x) refl refl (fewer_or_same p p' xs h)
  where
    cases : (b b' : Bool) → p x ≡ b → p' x ≡ b' → length (filter p' xs) ≤ length (filter p xs) → length (cond b' (x ∷ filter p' xs) (filter p' xs)) ≤ length (cond b (x ∷ filter p xs) (filter p xs))
    cases true true e e' more = omega arith
    cases true false e e' more = omega arith
    cases false true e e' more = absurd (differ (sym e' ∙ h x e))
      where
        differ : true ≡ false → ⊥
        differ e = cc
    cases false false e e' more = more

find_fewer : {A : Type 0} (p p' : A → Bool) (xs : List A) (t : A) → find p xs ≡ Some t → ((x : A) → p x ≡ false → p' x ≡ false) → p' t ≡ false → length (filter p' xs) < length (filter p xs)
find_fewer p p' [] t h before at = absurd cc
find_fewer p p' (x ∷ xs) t h before at =
    elim (first_or_later p x xs t h) [
      | inl here ↦ let now : p' x ≡ false = ap p' here.1 ∙ at in rw (here.0, now) (omega (arith, fewer_or_same p p' xs before))
      | inr more ↦ rw (more.0, before x more.0) (find_fewer p p' xs t more.1 before at)
    ]

-- ---- the turns

-- the next turn is not before the position
pub next_forward : (ts : List Turn) (from : Position) (t : Turn) → find (λ u. not (is_before u.at from)) ts ≡ Some t → is_before t.at from ≡ false
next_forward ts from t h = not-true (is_before t.at from) (find_true (λ u. not (is_before u.at from)) ts t h)

-- what is before the position is before the one behind the next turn
before_next : (ts : List Turn) (from : Position) (t : Turn) → find (λ u. not (is_before u.at from)) ts ≡ Some t
    → (u : Turn) → not (is_before u.at from) ≡ false → not (is_before u.at (past t.at)) ≡ false
before_next ts from t h u k =
    let early : is_before u.at t.at ≡ true = before_later u.at from t.at (not-false (is_before u.at from) k) (next_forward ts from t h) in
    ap not (before_later u.at t.at (past t.at) early (past_behind t.at))

next_past : (t : Turn) → not (is_before t.at (past t.at)) ≡ false
next_past t = ap not (before_past t.at)

-- no turn is left, so none that passes
pub none_left : (ts : List Turn) (from : Position) (q : Turn → Bool) → find (λ t. not (is_before t.at from)) ts ≡ None → find (λ t. not (is_before t.at from) && q t) ts ≡ None
none_left ts from q h = find_none (λ t. not (is_before t.at from)) q ts h

-- the next turn passes, so it is the first that does
pub taken : (ts : List Turn) (from : Position) (q : Turn → Bool) (t : Turn) → find (λ u. not (is_before u.at from)) ts ≡ Some t → q t ≡ true
    → find (λ u. not (is_before u.at from) && q u) ts ≡ Some t
taken ts from q t h k = find_taken (λ u. not (is_before u.at from)) q ts t h k

-- the next turn does not pass, so the search goes on behind it
pub passed : (ts : List Turn) (from : Position) (q : Turn → Bool) (t : Turn) → EachLater Earlier ts → find (λ u. not (is_before u.at from)) ts ≡ Some t → q t ≡ false
    → find (λ u. not (is_before u.at from) && q u) ts ≡ find (λ u. not (is_before u.at (past t.at)) && q u) ts
passed ts from q t order h k =
    find_passed Earlier (λ u. not (is_before u.at from)) (λ u. not (is_before u.at (past t.at))) q ts t order h k (before_next ts from t h) (next_past t)
    (λ u later. (ap not (after_from from t.at u.at (next_forward ts from t h) later), ap not (after_past t.at u.at later)))

-- fewer turns are left behind the next one
pub fewer_left : (ts : List Turn) (from : Position) (t : Turn) → find (λ u. not (is_before u.at from)) ts ≡ Some t → turns_after ts (past t.at) < turns_after ts from
fewer_left ts from t h =
    find_fewer (λ u. not (is_before u.at from)) (λ u. not (is_before u.at (past t.at))) ts t h (before_next ts from t h) (next_past t)

-- ---- the turns of a scan

-- the next turn of a scan does not pass, so the search goes on behind it
pub passed_turn : (t : Tables) (m : Machine) (driver attach spot only : Option ℕ) (from : Position) (q : Turn → Bool) (turn : Turn)
    → find (λ u. not (is_before u.at from)) (turns_of t m driver attach spot only) ≡ Some turn → q turn ≡ false
    → find (λ u. not (is_before u.at from) && q u) (turns_of t m driver attach spot only)
    ≡ find (λ u. not (is_before u.at (past turn.at)) && q u) (turns_of t m driver attach spot only)
passed_turn t m driver attach spot only from q turn h k = passed (turns_of t m driver attach spot only) from q turn (in_order t m driver attach spot only) h k

-- what the next turn of a scan tells
pub next_is : (t : Tables) (m : Machine) (driver attach spot only : Option ℕ) (from : Position) (turn : Turn) → ((d : ℕ) → length (interfaces t.attrs t.devices d) ≤ 64)
    → find (λ u. not (is_before u.at from)) (turns_of t m driver attach spot only) ≡ Some turn → IsTurn t m spot turn
next_is t m driver attach spot only from turn few h =
    all_found (IsTurn t m spot) (λ u. not (is_before u.at from)) (turns_of t m driver attach spot only) turn (all_turns t m driver attach spot only few) h

pub found_is : (t : Tables) (m : Machine) (driver attach spot only : Option ℕ) (from : Position) (found : Option Turn) → ((d : ℕ) → length (interfaces t.attrs t.devices d) ≤ 64)
    → find (λ u. not (is_before u.at from)) (turns_of t m driver attach spot only) ≡ found → IfSome found (IsTurn t m spot)
found_is t m driver attach spot only from None few h = tt
found_is t m driver attach spot only from (Some turn) few h = next_is t m driver attach spot only from turn few h

pub found_forward : (ts : List Turn) (from : Position) (found : Option Turn) → find (λ u. not (is_before u.at from)) ts ≡ found → IfSome found (λ u. is_before u.at from ≡ false)
found_forward ts from None h = tt
found_forward ts from (Some turn) h = next_forward ts from turn h

-- ---- the due turn of a scan

-- no turn is left, so none is due
pub due_none : (s : Setup) (live : List Dev) (absent hidden : List ℕ) (p : ℕ) (only : Option ℕ) (wanted : List Wanted) (from : Position)
    → find (λ u. not (is_before u.at from)) (turns s live p only) ≡ None → due s live absent hidden p only wanted from ≡ None
unfolding due
due_none s live absent hidden p only wanted from h = none_left (turns s live p only) from (is_due s live absent hidden p wanted) h

-- the next turn is due, so it is the one
pub due_taken : (s : Setup) (live : List Dev) (absent hidden : List ℕ) (p : ℕ) (only : Option ℕ) (wanted : List Wanted) (from : Position) (t : Turn)
    → find (λ u. not (is_before u.at from)) (turns s live p only) ≡ Some t → is_due s live absent hidden p wanted t ≡ true
    → due s live absent hidden p only wanted from ≡ Some t
unfolding due
due_taken s live absent hidden p only wanted from t h k = taken (turns s live p only) from (is_due s live absent hidden p wanted) t h k

-- the next turn is not due, so the one that is stands behind it
pub due_passed : (s : Setup) (live : List Dev) (absent hidden : List ℕ) (p : ℕ) (only : Option ℕ) (wanted : List Wanted) (from : Position) (t : Turn)
    → find (λ u. not (is_before u.at from)) (turns s live p only) ≡ Some t → is_due s live absent hidden p wanted t ≡ false
    → due s live absent hidden p only wanted from ≡ due s live absent hidden p only wanted (past t.at)
unfolding due
due_passed s live absent hidden p only wanted from t h k =
    passed_turn s.tables s.machine (driver_at s live p) (attach_at s live p) (spot_of live p) only from (is_due s live absent hidden p wanted) t h k
