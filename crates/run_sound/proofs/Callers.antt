-- Callers of a world: one is set, the others stay; and what pins a device.
use Rattle.std.proofs.Common.{◌≡◌, ◌≢◌, ℕ, zero, suc, ◌<◌, Bool, true, false, not, ◌&&◌, ◌||◌, ◌==◌, ◌⊎◌, inl, inr, cond, List, [], ◌∷◌, ◌++◌, length, refl, ap, arith, eqb-true, eq-eqb, slice_index_or, slice_set, get_or-set_same, get_or-set_other, length-set}
use Rattle.std.proofs.lemmas.Bool.{false_from_ne_true, ne_eqb, not_from_false, or_cases, or_left, or_right}
use Rattle.std.specs.Prelude.{IsTrue, if◌then◌else◌, filter}
use Rattle.std.specs.List.{AllByRecursion, list_any}
use Rattle.run_rules.specs.declared.world.Deferred.{Deferred}
use Rattle.run_rules.specs.declared.world.Wait.TheVariants as wait
use Rattle.run_rules.specs.declared.world.Activity.{Activity}
use Rattle.run_rules.specs.declared.world.Activity.TheVariants as activity
use Rattle.run_rules.specs.World.{World, Caller, caller_at, frame_serial, has_ended, is_ended, is_pinned, nobody}
use Rattle.run_rules.specs.declared.deed.Deed.{Deed}
use Rattle.run_rules.specs.declared.deed.Choice.TheVariants.{Ended, Waits, Does}
use Rattle.run_rules.specs.Next.{next, by_activity}
use Rattle.run_rules.specs.After.{with_caller}

-- ---- lists

pub all_set : {A : Type 0} (P : A → Type 0) (xs : List A) (i : ℕ) (y : A) → AllByRecursion P xs → P y → AllByRecursion P (slice_set xs i y)
all_set P [] i y h here = tt
all_set P (x ∷ xs) zero y h here = (here, h.1)
all_set P (x ∷ xs) (suc i) y h here = (h.0, all_set P xs i y h.1 here)

pub all_or : {A : Type 0} (P : A → Type 0) (xs : List A) (i : ℕ) (d : A) → AllByRecursion P xs → P d → P (slice_index_or xs i d)
all_or P [] i d h here = here
all_or P (x ∷ xs) zero d h here = h.0
all_or P (x ∷ xs) (suc i) d h here = all_or P xs i d h.1 here

pub all_append : {A : Type 0} (P : A → Type 0) (xs ys : List A) → AllByRecursion P xs → AllByRecursion P ys → AllByRecursion P (xs ++ ys)
all_append P [] ys h k = k
all_append P (x ∷ xs) ys h k = (h.0, all_append P xs ys h.1 k)

pub all_filter : {A : Type 0} (P : A → Type 0) (q : A → Bool) (xs : List A) → AllByRecursion P xs → AllByRecursion P (filter q xs)
all_filter P q [] h = tt
all_filter {A} P q (x ∷ xs) h = elim (q x) as (λ b. AllByRecursion P (cond b (x ∷ filter q xs) (filter q xs))) [ true ↦ (h.0, all_filter P q xs h.1) | false ↦ all_filter P q xs h.1 ]

-- each element that passes q
pub all_passing : {A : Type 0} (q : A → Bool) (xs : List A) → AllByRecursion (λ x. q x ≡ true) (filter q xs)
all_passing q [] = tt
all_passing {A} q (x ∷ xs) = cases (all_passing q xs) (q x) refl
  where
    cases : AllByRecursion (λ x. q x ≡ true) (filter q xs) → (b : Bool) → q x ≡ b → AllByRecursion (λ x. q x ≡ true) (cond b (x ∷ filter q xs) (filter q xs))
    cases more true h = (h, more)
    cases more false h = more

-- ---- tests of some element

pub clash : {A : Type 0} (b : Bool) → b ≡ true → b ≡ false → A
clash b is isnt = absurd cc

-- where what was there passed the test, something passes it
pub any_or : {A : Type 0} (p : A → Bool) (xs : List A) (i : ℕ) (d : A) → p d ≡ false → p (slice_index_or xs i d) ≡ true → list_any p xs ≡ true
any_or p [] i d bad h = clash (p d) h bad
any_or p (x ∷ xs) zero d bad h = or_left (p x) (list_any p xs) h
any_or p (x ∷ xs) (suc i) d bad h = or_right (p x) (list_any p xs) (any_or p xs i d bad h)

-- one is set: what passes then did before, or is the new one
pub any_set_from : {A : Type 0} (p : A → Bool) (xs : List A) (i : ℕ) (y : A) → list_any p (slice_set xs i y) ≡ true → (list_any p xs ≡ true) ⊎ (p y ≡ true)
any_set_from p [] i y h = inl h
any_set_from p (x ∷ xs) zero y h = elim (or_cases (p y) (list_any p xs) h) [ inl here ↦ inr here | inr more ↦ inl (or_right (p x) (list_any p xs) more) ]
any_set_from p (x ∷ xs) (suc i) y h =
    elim (or_cases (p x) (list_any p (slice_set xs i y)) h) [
      | inl here ↦ inl (or_left (p x) (list_any p xs) here)
      | inr more ↦ elim (any_set_from p xs i y more) [ inl was ↦ inl (or_right (p x) (list_any p xs) was) | inr now ↦ inr now ]
    ]

-- one is set that passes where the old one did
pub any_set_more : {A : Type 0} (p : A → Bool) (xs : List A) (i : ℕ) (y d : A) → (p (slice_index_or xs i d) ≡ true → p y ≡ true) → list_any p xs ≡ true → list_any p (slice_set xs i y) ≡ true
any_set_more p [] i y d keeps h = h
any_set_more p (x ∷ xs) zero y d keeps h = elim (or_cases (p x) (list_any p xs) h) [ inl here ↦ or_left (p y) (list_any p xs) (keeps here) | inr more ↦ or_right (p y) (list_any p xs) more ]
any_set_more p (x ∷ xs) (suc i) y d keeps h =
    elim (or_cases (p x) (list_any p xs) h) [
      | inl here ↦ or_left (p x) (list_any p (slice_set xs i y)) here
      | inr more ↦ or_right (p x) (list_any p (slice_set xs i y)) (any_set_more p xs i y d keeps more)
    ]

-- the one that is set is there
pub any_set_here : {A : Type 0} (p : A → Bool) (xs : List A) (i : ℕ) (y : A) → i < length xs → p y ≡ true → list_any p (slice_set xs i y) ≡ true
any_set_here p [] i y lt h = absurd (omega arith)
any_set_here p (x ∷ xs) zero y lt h = or_left (p y) (list_any p xs) h
any_set_here p (x ∷ xs) (suc i) y lt h = or_right (p x) (list_any p (slice_set xs i y)) (any_set_here p xs i y (omega arith) h)

pub any_set_same : {A : Type 0} (p : A → Bool) (xs : List A) (i : ℕ) (y d : A) → p y ≡ p (slice_index_or xs i d) → list_any p (slice_set xs i y) ≡ list_any p xs
any_set_same p [] i y d e = refl
any_set_same p (x ∷ xs) zero y d e = ap (λ b. b || list_any p xs) e
any_set_same p (x ∷ xs) (suc i) y d e = ap (λ b. p x || b) (any_set_same p xs i y d e)

-- ---- callers

pub caller_here : (w : World) (k : ℕ) (c : Caller) → k < length w.callers → caller_at (with_caller w k c) k ≡ c
caller_here w k c lt = get_or-set_same w.callers k c nobody lt

pub caller_there : (w : World) (k j : ℕ) (c : Caller) → j ≢ k → caller_at (with_caller w k c) j ≡ caller_at w j
caller_there w k j c other = get_or-set_other w.callers k j c nobody other

-- what holds of the new caller, and of each other one before, holds of each
pub caller_each : (P : Caller → Type 0) (w : World) (k j : ℕ) (c : Caller) → k < length w.callers → (j ≡ k → P c) → (j ≢ k → P (caller_at w j)) → P (caller_at (with_caller w k c) j)
caller_each P w k j c lt here other = cases (j == k) refl
  where
    cases : (b : Bool) → (j == k) ≡ b → P (caller_at (with_caller w k c) j)
    cases true e = let same : j ≡ k = eqb-true j k e in rw (same, caller_here w k c lt) (here same)
    cases false e =
        let differs : j ≢ k = λ same. clash (j == k) (eq-eqb j k same) e in
        rw (caller_there w k j c differs) (other differs)

pub callers_kept : (w : World) (k : ℕ) (c : Caller) → length (with_caller w k c).callers ≡ length w.callers
callers_kept w k c = length-set w.callers k c

out_of_range : (cs : List Caller) (k : ℕ) → is_ended (slice_index_or cs k nobody).doing ≡ false → k < length cs
out_of_range [] k h = absurd cc
out_of_range (c ∷ cs) zero h = omega arith
out_of_range (c ∷ cs) (suc k) h = omega (arith, out_of_range cs k h)

-- one that has not ended is there
pub unended_there : (w : World) (k : ℕ) → has_ended w k ≡ false → k < length w.callers
unended_there w k h = out_of_range w.callers k h

-- ---- who does something

-- it has not ended, it boots or the boot is over, and its activity tells what it does
pub record IsDoing (w : World) (k : ℕ) (d : Deed) : Type 0 where
  pub unended : has_ended w k ≡ false
  pub after_boot : k ≢ 0 → has_ended w 0 ≡ true
  pub does : by_activity w k (caller_at w k).doing ≡ Does d

pub doing_so : (w : World) (k : ℕ) (d : Deed) → next w k ≡ Does d → IsDoing w k d
unfolding next
doing_so w k d e = ends (has_ended w k) refl e
  where
    waits : has_ended w k ≡ false → (a b : Bool) → (k == 0) ≡ a → has_ended w 0 ≡ b → (if not a && not b then Waits wait.Boot else by_activity w k (caller_at w k).doing) ≡ Does d
        → IsDoing w k d
    waits un true b h i does = record { unended = un; after_boot = λ differs. absurd (differs (eqb-true k 0 h)); does = does }
    waits un false true h i does = record { unended = un; after_boot = λ differs. i; does = does }
    waits un false false h i does = absurd cc

    ends : (b : Bool) → has_ended w k ≡ b → (if b then Ended else (if not (k == 0) && not (has_ended w 0) then Waits wait.Boot else by_activity w k (caller_at w k).doing)) ≡ Does d → IsDoing w k d
    ends true h does = absurd cc
    ends false h does = waits h (k == 0) (has_ended w 0) refl refl does

pub doing_there : (w : World) (k : ℕ) (d : Deed) → next w k ≡ Does d → k < length w.callers
doing_there w k d e = unended_there w k (doing_so w k d e).unended

-- while the boot goes on only caller 0 does something
pub boot_alone : (w : World) (k : ℕ) (d : Deed) → next w k ≡ Does d → has_ended w 0 ≡ false → k ≡ 0
boot_alone w k d e goes = cases (k == 0) refl
  where
    cases : (b : Bool) → (k == 0) ≡ b → k ≡ 0
    cases true h = eqb-true k 0 h
    cases false h = clash (has_ended w 0) ((doing_so w k d e).after_boot (λ same. clash (k == 0) (eq-eqb k 0 same) h)) goes

pub ended_is : (a : Activity) → a ≡ activity.Ended → is_ended a ≡ true
ended_is a e = rw e refl

pub is_ended_so : (a : Activity) → is_ended a ≡ true → a ≡ activity.Ended
is_ended_so activity.Ended h = refl
is_ended_so activity.Idle h = absurd cc
is_ended_so (activity.Transfer t) h = absurd cc
is_ended_so (activity.Frees s) h = absurd cc
is_ended_so activity.Scans h = absurd cc
is_ended_so (activity.Power kind target) h = absurd cc

pub unended_so : (w : World) (k : ℕ) → (caller_at w k).doing ≢ activity.Ended → has_ended w k ≡ false
unended_so w k h = false_from_ne_true (has_ended w k) (λ e. h (is_ended_so (caller_at w k).doing e))

pub not_ended : (w : World) (k : ℕ) → has_ended w k ≡ false → (caller_at w k).doing ≢ activity.Ended
not_ended w k goes e = clash (has_ended w k) (rw e refl) goes

-- any caller but the first
pub later_test : (k : ℕ) → k ≢ 0 → IsTrue (not (k == 0))
later_test k later = not_from_false (k == 0) (ne_eqb k 0 later)

-- ---- pins

-- a frame of the stack is for the device
abbrev pub stack_pins : ℕ → Caller → Bool
stack_pins s c = list_any (λ f. frame_serial f == s) c.stack

-- a frame of some caller is for the device; a scan that was put off is
abbrev pub frames_pin : List Caller → ℕ → Bool
frames_pin callers s = list_any (stack_pins s) callers

abbrev pub entries_pin : List Deferred → ℕ → Bool
entries_pin entries s = list_any (λ e. e.child == s) entries

-- pins are of frames and of entries alone
pub pins_same : (v w : World) (s : ℕ) → v.callers ≡ w.callers → v.deferred ≡ w.deferred → is_pinned v s ≡ is_pinned w s
unfolding is_pinned
pins_same v w s a b = rw (a, b) refl

pub pinned_by_frame : (w : World) (k s : ℕ) → stack_pins s (caller_at w k) ≡ true → is_pinned w s ≡ true
unfolding is_pinned
pinned_by_frame w k s h = or_left (frames_pin w.callers s) (entries_pin w.deferred s) (any_or (stack_pins s) w.callers k nobody refl h)

pub pinned_by_entry : (w : World) (s : ℕ) → entries_pin w.deferred s ≡ true → is_pinned w s ≡ true
unfolding is_pinned
pinned_by_entry w s h = or_right (frames_pin w.callers s) (entries_pin w.deferred s) h

-- where the caller's frames are for the same devices as before, the pins stay
pub pins_kept : (w : World) (k s : ℕ) (c : Caller) → stack_pins s c ≡ stack_pins s (caller_at w k) → is_pinned (with_caller w k c) s ≡ is_pinned w s
unfolding is_pinned
pins_kept w k s c e = ap (λ b. b || entries_pin w.deferred s) (any_set_same (stack_pins s) w.callers k c nobody e)
