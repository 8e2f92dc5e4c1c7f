-- A caller's frames change, and scans are put off or are no longer.
use Rattle.std.proofs.Common.{◌≡◌, ◌≢◌, ◌⊎◌, ℕ, ◌<◌, Bool, true, false, ◌==◌, inl, inr, List, [], ◌∷◌, length, refl, ◌∙◌, subst, slice_set}
use Rattle.std.proofs.lemmas.Bool.{or_cases}
use Rattle.std.specs.Prelude.{IsTrue}
use Rattle.std.specs.List.{AllByRecursion, list_any}
use Rattle.std.proofs.lemmas.List.{set-get_or}
use Rattle.run_rules.specs.declared.world.Frame.{Frame}
use Rattle.run_rules.specs.declared.world.Deferred.{Deferred}
use Rattle.run_rules.specs.declared.world.Key.{Key}
use Rattle.run_rules.specs.declared.world.Key.TheVariants as key
use Rattle.run_rules.specs.declared.world.Activity.{Activity}
use Rattle.run_rules.specs.declared.world.Activity.TheVariants as activity
use Rattle.run_rules.specs.World.{World, Caller, caller_at, frame_serial, has_ended, is_live, is_pinned, nobody}
use Rattle.run_rules.specs.declared.deed.Deed.{Deed}
use Rattle.run_rules.specs.declared.deed.Choice.TheVariants.{Does}
use Rattle.run_rules.specs.Next.{next}
use Rattle.run_rules.specs.After.{settled, with_stack}
use Rattle.run_rules.specs.Sound.{IsSoundlyDeferred, Sound, is_known, is_scan_of}
use Rattle.run_sound.proofs.Callers.{all_or, any_set_more, boot_alone, doing_so, doing_there, entries_pin, pinned_by_frame, stack_pins, not_ended, later_test}
use Rattle.run_sound.proofs.Reasons.{is_quiet}
use Rattle.run_sound.proofs.Members.{each_of, of_each}
use Rattle.run_sound.proofs.Restacks.{IsSpared, MayBe, PinsFew, restacked, sound_restacked}

-- ---- a caller with other frames

-- a rescan without frames is over, and else the caller goes on as it was
pub record Settles (a : Activity) (stack : List Frame) (c : Caller) : Type 0 where
  pub frames : c.stack ≡ stack
  pub doing : (c.doing ≡ a) ⊎ ((is_quiet c.doing ≡ true) × (is_quiet a ≡ true))
  pub scans : stack ≢ [] → c.doing ≡ a
  pub goes : a ≢ activity.Ended → c.doing ≢ activity.Ended

pub settles : (over : ℕ) (a : Activity) (stack : List Frame) → Settles a stack (settled (record { over = over; doing = a; stack = stack }))
settles over activity.Scans [] = record { frames = refl; doing = inr (refl, refl); scans = λ some. absurd (some refl); goes = λ h e. cc }
settles over activity.Scans (f ∷ fs) = record { frames = refl; doing = inl refl; scans = λ some. refl; goes = λ h. h }
settles over activity.Idle stack = record { frames = refl; doing = inl refl; scans = λ some. refl; goes = λ h. h }
settles over activity.Ended stack = record { frames = refl; doing = inl refl; scans = λ some. refl; goes = λ h. h }
settles over (activity.Transfer t) stack = record { frames = refl; doing = inl refl; scans = λ some. refl; goes = λ h. h }
settles over (activity.Frees s) stack = record { frames = refl; doing = inl refl; scans = λ some. refl; goes = λ h. h }
settles over (activity.Power kind s) stack = record { frames = refl; doing = inl refl; scans = λ some. refl; goes = λ h. h }

-- the caller that a frame's change leaves
abbrev pub stacked : World → ℕ → List Frame → Caller
stacked w k stack = settled (record { over = (caller_at w k).over; doing = (caller_at w k).doing; stack = stack })

-- ---- who does something

-- it is one of the callers, it has not ended, and while the boot goes on it is the one that boots
pub record IsDoer (w : World) (k : ℕ) : Type 0 where
  pub there : k < length w.callers
  pub unended : has_ended w k ≡ false
  pub alone : has_ended w 0 ≡ false → k ≡ 0

pub doer : (w : World) (k : ℕ) (d : Deed) → next w k ≡ Does d → IsDoer w k
doer w k d e = record { there = doing_there w k d e; unended = (doing_so w k d e).unended; alone = boot_alone w k d e }

-- ---- its frames change

abbrev pub pins_of : List Frame → ℕ → Bool
pins_of stack s = list_any (λ f. frame_serial f == s) stack

-- these frames may be the caller's, with these scans put off: they are of known devices, what they pin was pinned or is spared, and the scans
-- that others are put off to stay
pub record MayStack (w : World) (k : ℕ) (stack : List Frame) (entries : List Deferred) : Type 0 where
  pub known : AllByRecursion (λ f. IsTrue (is_known w (frame_serial f))) stack
  pub scans : k ≢ 0 → stack ≢ [] → (caller_at w k).doing ≡ activity.Scans
  pub frame_pins : (s : ℕ) → pins_of stack s ≡ true → (is_pinned w s ≡ true) ⊎ IsSpared w.live s
  pub entry_pins : (s : ℕ) → entries_pin entries s ≡ true → (is_pinned w s ≡ true) ⊎ IsSpared w.live s
  pub put_off : AllByRecursion (IsSoundlyDeferred w) entries
  pub keeps : AllByRecursion (λ e. (p : ℕ) → e.key ≡ key.Parent p → list_any (is_scan_of p) (caller_at w k).stack ≡ true → list_any (is_scan_of p) stack ≡ true) entries

may_be : (w : World) (k : ℕ) (stack : List Frame) (entries : List Deferred) → IsDoer w k → MayStack w k stack entries → MayBe w k (stacked w k stack)
may_be w k stack entries doer may =
    let c = settles (caller_at w k).over (caller_at w k).doing stack in
    record {
      there = doer.there;
      unended = doer.unended;
      alone = doer.alone;
      doing = c.doing;
      known = rw c.frames may.known;
      scans = λ later some. let full : stack ≢ [] = λ e. some (c.frames ∙ e) in c.scans full ∙ may.scans later full;
      ended = λ e. absurd (c.goes (not_ended w k doer.unended) e);
    }

pins_few : (w : World) (k : ℕ) (stack : List Frame) (entries : List Deferred) → MayStack w k stack entries → PinsFew w (stacked w k stack) entries
pins_few w k stack entries may s h =
    let c = settles (caller_at w k).over (caller_at w k).doing stack in
    elim (or_cases (pins_of stack s) (entries_pin entries s) (rw c.frames at h)) [ inl frame ↦ may.frame_pins s frame | inr entry ↦ may.entry_pins s entry ]

-- whether some caller scans the device
abbrev scanned : List Caller → ℕ → Bool
scanned callers p = list_any (λ c. list_any (is_scan_of p) c.stack) callers

still_scanned : (w : World) (k p : ℕ) (stack : List Frame) → (list_any (is_scan_of p) (caller_at w k).stack ≡ true → list_any (is_scan_of p) stack ≡ true)
    → scanned w.callers p ≡ true → scanned (slice_set w.callers k (stacked w k stack)) p ≡ true
still_scanned w k p stack keeps h =
    let c = settles (caller_at w k).over (caller_at w k).doing stack in
    any_set_more (λ (d : Caller). list_any (is_scan_of p) d.stack) w.callers k (stacked w k stack) nobody (λ was. rw c.frames (keeps was)) h

still_put_off : (w : World) (k : ℕ) (stack : List Frame) (entries : List Deferred) (interrupts_on : Bool) (finalisers hidden : List ℕ) (place : ℕ) (pass_repeats : Bool) → MayStack w k stack entries
    → AllByRecursion (IsSoundlyDeferred (restacked w k (stacked w k stack) entries interrupts_on finalisers hidden place pass_repeats)) entries
still_put_off w k stack entries interrupts_on finalisers hidden place pass_repeats may =
    each_of (IsSoundlyDeferred (restacked w k (stacked w k stack) entries interrupts_on finalisers hidden place pass_repeats)) entries
    (λ e here. one e.key e.child (of_each (IsSoundlyDeferred w) entries e may.put_off here)
    (of_each (λ e. (p : ℕ) → e.key ≡ key.Parent p → list_any (is_scan_of p) (caller_at w k).stack ≡ true → list_any (is_scan_of p) stack ≡ true) entries e may.keeps here))
  where
    one : (which : Key) (child : ℕ) → IsSoundlyDeferred w (record { key = which; child = child })
        → ((p : ℕ) → which ≡ key.Parent p → list_any (is_scan_of p) (caller_at w k).stack ≡ true → list_any (is_scan_of p) stack ≡ true)
        → IsSoundlyDeferred (restacked w k (stacked w k stack) entries interrupts_on finalisers hidden place pass_repeats) (record { key = which; child = child })
    one key.Interrupts child old keeps = (old.0, tt)
    one (key.Parent p) child old keeps = (old.0, still_scanned w k p stack (keeps p refl) old.1)

pub sound_stack : (w : World) (k : ℕ) (stack : List Frame) (entries : List Deferred) (interrupts_on : Bool) → Sound w → IsDoer w k → MayStack w k stack entries
    → (IsTrue interrupts_on → AllByRecursion (λ e. e.key ≢ key.Interrupts) entries) → Sound (with_stack (record w { deferred = entries; interrupts_on = interrupts_on }) k stack)
sound_stack w k stack entries interrupts_on sound doer may on =
    sound_restacked w k (stacked w k stack) entries interrupts_on w.finalisers w.hidden w.next_finaliser w.pass_repeats sound (may_be w k stack entries doer may) (pins_few w k stack entries may)
    (still_put_off w k stack entries interrupts_on w.finalisers w.hidden w.next_finaliser w.pass_repeats may) on (λ goes. (sound.boot (not_ended w 0 goes)).finalisers)

-- ---- its frames stay

-- of a caller with the same frames
pub same_put_off : (w : World) (k : ℕ) (c : Caller) (entries : List Deferred) (interrupts_on : Bool) (finalisers hidden : List ℕ) (place : ℕ) (pass_repeats : Bool) → c.stack ≡ (caller_at w k).stack
    → AllByRecursion (IsSoundlyDeferred w) entries → AllByRecursion (IsSoundlyDeferred (restacked w k c entries interrupts_on finalisers hidden place pass_repeats)) entries
same_put_off w k c entries interrupts_on finalisers hidden place pass_repeats same h =
    each_of (IsSoundlyDeferred (restacked w k c entries interrupts_on finalisers hidden place pass_repeats)) entries (λ e here. one e.key e.child (of_each (IsSoundlyDeferred w) entries e h here))
  where
    one : (which : Key) (child : ℕ) → IsSoundlyDeferred w (record { key = which; child = child })
        → IsSoundlyDeferred (restacked w k c entries interrupts_on finalisers hidden place pass_repeats) (record { key = which; child = child })
    one key.Interrupts child old = (old.0, tt)
    one (key.Parent p) child old = (old.0, any_set_more (λ (d : Caller). list_any (is_scan_of p) d.stack) w.callers k c nobody (λ was. rw same was) old.1)

pub stays : (w : World) (k : ℕ) → Sound w → IsDoer w k → MayBe w k (caller_at w k)
stays w k sound doer = record {
  there = doer.there;
  unended = doer.unended;
  alone = doer.alone;
  doing = inl refl;
  known = all_or (λ (c : Caller). AllByRecursion (λ f. IsTrue (is_known w (frame_serial f))) c.stack) w.callers k nobody sound.frames tt;
  scans = λ later some. (sound.callers k).frames (later_test k later) some;
  ended = λ e. absurd (not_ended w k doer.unended e);
}

-- scans are put off more, the boot's list grows, a spot is shown, or the boot's place moves
pub sound_beside : (w : World) (k : ℕ) (entries : List Deferred) (finalisers hidden : List ℕ) (place : ℕ) (pass_repeats : Bool) → Sound w → IsDoer w k
    → ((s : ℕ) → entries_pin entries s ≡ true → (is_pinned w s ≡ true) ⊎ IsSpared w.live s)
    → AllByRecursion (IsSoundlyDeferred w) entries
    → (IsTrue w.interrupts_on → AllByRecursion (λ e. e.key ≢ key.Interrupts) entries)
    → (has_ended w 0 ≡ false → AllByRecursion (λ s. IsTrue (is_live w.live s)) finalisers)
    → Sound (record w { deferred = entries; finalisers = finalisers; hidden = hidden; next_finaliser = place; pass_repeats = pass_repeats })
sound_beside w k entries finalisers hidden place pass_repeats sound doer pins put_off on live =
    subst (λ (cs : List Caller). Sound (record w { callers = cs; deferred = entries; finalisers = finalisers; hidden = hidden; next_finaliser = place; pass_repeats = pass_repeats })) (set-get_or w.callers k nobody)
    (sound_restacked w k (caller_at w k) entries w.interrupts_on finalisers hidden place pass_repeats sound (stays w k sound doer) few (same_put_off w k (caller_at w k) entries w.interrupts_on finalisers hidden place pass_repeats refl put_off) on live)
  where
    few : PinsFew w (caller_at w k) entries
    few s h = elim (or_cases (stack_pins s (caller_at w k)) (entries_pin entries s) h) [ inl frame ↦ inl (pinned_by_frame w k s frame) | inr entry ↦ pins s entry ]
