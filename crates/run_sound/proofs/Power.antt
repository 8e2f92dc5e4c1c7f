-- The power turn, and devices that fall asleep and wake: the world stays sound.
use Rattle.std.proofs.Common.{◌≡◌, ◌≢◌, ◌⊎◌, ℕ, ◌+◌, ◌<◌, Bool, true, false, not, ◌&&◌, ◌||◌, ◌==◌, cond, [], map, find, Option, Some, None, refl, sym, ap, ◌∙◌, inl, inr, arith, eqb-true, eq-eqb}
use Rattle.std.specs.Prelude.{IsTrue, if◌then◌else◌}
use Rattle.std.specs.List.{AllByRecursion, Contains}
use Rattle.std.proofs.lemmas.Bool.{ne_eqb, cases_Bool, cases_eq, and_parts, and_from, or_cases, or_left, or_right}
use Rattle.run_rules.specs.declared.event.PowerKind.{PowerKind}
use Rattle.run_rules.specs.declared.event.PowerKind.TheVariants as kind
use Rattle.run_rules.specs.declared.world.Dev.{Dev}
use Rattle.run_rules.specs.declared.world.Frame.{Frame}
use Rattle.run_rules.specs.declared.world.Activity.TheVariants as activity
use Rattle.run_rules.specs.declared.world.Ref.{Ref}
use Rattle.run_rules.specs.World.{World, is_live, is_under, is_pinned, is_number, frame_serial, caller_at}
use Rattle.run_rules.specs.declared.deed.Deed.{Deed}
use Rattle.run_rules.specs.declared.deed.Deed.TheVariants.{BeginPower, Sleep, Wake, EndPower}
use Rattle.run_rules.specs.declared.deed.Choice.TheVariants.{Does}
use Rattle.run_rules.specs.Next.{next, next_sleep, next_wake, other_turn}
use Rattle.run_rules.specs.After.{after, with_sleep, marked}
use Rattle.run_rules.specs.Sound.{IsApart, IsSoundlyCondemned, IsSoundlyAsleep, is_known, IsFreed, Sound}
use Rattle.run_sound.specs.Kept.{Kept}
use Rattle.run_rules.proofs.Devices.{all_imp}
use Rattle.run_rules.proofs.Free.{find_true}
use Rattle.run_sound.proofs.Callers.{clash, pins_same}
use Rattle.run_sound.proofs.Members.{of_each, each_of, each_mapped, one_serial, found_contained, contained_live}
use Rattle.run_sound.proofs.Reasons.{has_command_reason}
use Rattle.run_sound.proofs.Trees.{AreRising, rising, under_child, under_parent, under_up, under_itself}
use Rattle.run_sound.proofs.Marks.{sleep_keeps_tree, live_mapped, under_mapped, devices_mapped}
use Rattle.run_sound.proofs.Lasts.{IsLast, last_found, first_found}
use Rattle.run_sound.proofs.Plain.{sound_caller, deferred_kept, between_later, between_frees, later_one, agrees_idle}
use Rattle.run_sound.proofs.References.{amid_later, amid_no_frames}
use Rattle.run_rules.specs.declared.deed.PowerEnd.{PowerEnd}

-- ---- the turn

-- a caller that may take the turn leaves each other one without it
turn_taken : (turn : Option ℕ) (k j : ℕ) → other_turn turn k ≡ None → j ≢ k → is_number (Some k) j ≡ is_number turn j
turn_taken None k j free other = ne_eqb k j (λ e. other (sym e))
turn_taken (Some m) k j free other = cases (m == k) refl free
  where
    cases : (b : Bool) → (m == k) ≡ b → (if b then None else Some m) ≡ None → (k == j) ≡ (m == j)
    cases true same e = ap (λ (n : ℕ). n == j) (sym (eqb-true m k same))
    cases false same e = absurd cc

pub sound_begin_power : (w : World) (k : ℕ) (what : PowerKind) (s : ℕ) → Sound w → next w k ≡ Does (BeginPower what s) → Sound (after w k (BeginPower what s))
unfolding after
sound_begin_power w k what s sound chosen =
    let why = has_command_reason w k (BeginPower what s) chosen in
    let at = why.begins.between in
    sound_caller w k (Some k) (record { over = (caller_at w k).over; doing = activity.Power what s; stack = (caller_at w k).stack }) sound (between_later w k (BeginPower what s) chosen at)
    (record {
      no_frames = at.no_frames;
      own = (λ h. refl, λ h. eq-eqb k k refl);
      theirs = λ j other. turn_taken w.power_owner k j why.nobody other;
      frees = λ t e. absurd (between_frees (caller_at w k).doing t at.idle e);
      transfer = λ t e. absurd cc;
      unended = λ e. cc;
      target = λ t e. absurd cc;
    })

-- the one that has the turn has it alone
turn_alone : (turn : Option ℕ) (k j : ℕ) → is_number turn k ≡ true → j ≢ k → is_number None j ≡ is_number turn j
turn_alone None k j has other = refl
turn_alone (Some m) k j has other = sym (ne_eqb m j (λ e. other (sym e ∙ eqb-true m k has)))

pub sound_end_power : (w : World) (k : ℕ) (end : PowerEnd) → Kept w → next w k ≡ Does (EndPower end) → Sound (after w k (EndPower end))
unfolding after
sound_end_power w k end kept chosen =
    let sound = kept.sound in
    let why = has_command_reason w k (EndPower end) chosen in
    let busy : (caller_at w k).doing ≡ activity.Power why.kind why.target = why.amid in
    let later : k ≢ 0 = amid_later w k kept.ranges (λ e. cc) (λ e. cc) in
    let none : (caller_at w k).stack ≡ [] = amid_no_frames w k sound later (λ e. cc) in
    let mine : is_number w.power_owner k ≡ true = (sound.callers k).turn.1 (rw busy refl) in
    sound_caller w k None (record { over = (caller_at w k).over + 1; doing = activity.Idle; stack = (caller_at w k).stack }) sound (later_one w k (EndPower end) chosen later none)
    (agrees_idle w k ((caller_at w k).over + 1) None (caller_at w k).stack none refl (λ j other. turn_alone w.power_owner k j mine other) (λ t e. cc))

-- ---- a device falls asleep, or wakes

is_named : (s : ℕ) (asleep : Bool) (d : Dev) → d.serial ≡ s → with_sleep s asleep d ≡ record d { asleep = asleep }
is_named s asleep d e = ap (λ (b : Bool). cond b (record d { asleep = asleep }) d) (eq-eqb d.serial s e)

is_other : (s : ℕ) (asleep : Bool) (d : Dev) → d.serial ≢ s → with_sleep s asleep d ≡ d
is_other s asleep d other = ap (λ (b : Bool). cond b (record d { asleep = asleep }) d) (ne_eqb d.serial s other)

as_condemned : (s : ℕ) (asleep : Bool) (d : Dev) → (with_sleep s asleep d).condemned ≡ d.condemned
as_condemned s asleep d = elim (cases_eq d.serial s) [ inl e ↦ ap (λ (x : Dev). x.condemned) (is_named s asleep d e) | inr e ↦ ap (λ (x : Dev). x.condemned) (is_other s asleep d e) ]

module _ (w : World) (s : ℕ) (asleep : Bool) (sound : Sound w) (booted : (caller_at w 0).doing ≡ activity.Ended) where
  abbrev mark : Dev → Dev
  mark d = with_sleep s asleep d

  pins : (x : ℕ) → is_pinned (marked w s asleep) x ≡ is_pinned w x
  pins x = pins_same (marked w s asleep) w x refl refl

  -- the children of a device have what they had
  marked_children : (P : Dev → Type 0) (d : Dev) → ((e : Dev) → Contains w.live e → e.parent ≡ d.serial → P (mark e)) → AllByRecursion (λ e. e.parent ≡ (mark d).serial → P e) (map mark w.live)
  marked_children P d h = each_mapped (λ e. e.parent ≡ (mark d).serial → P e) mark w.live (each_of _ w.live (λ e there parent.
      h e there (sym ((sleep_keeps_tree s asleep).parent e) ∙ parent ∙ (sleep_keeps_tree s asleep).serial d)))

  marked_condemned : (d : Dev) → Contains w.live d → (j : ℕ) → (mark d).condemned ≡ Some j → IsSoundlyCondemned (marked w s asleep) (mark d) j
  marked_condemned d here j c =
      let old = of_each (λ e. (i : ℕ) → e.condemned ≡ Some i → IsSoundlyCondemned w e i) w.live d sound.condemned here j (sym (as_condemned s asleep d) ∙ c) in
      record {
        unpinned = ap (is_pinned (marked w s asleep)) ((sleep_keeps_tree s asleep).serial d) ∙ pins d.serial ∙ old.unpinned;
        children = marked_children (λ e. e.condemned ≡ Some j) d (λ e there parent. as_condemned s asleep e ∙ of_each (λ x. x.parent ≡ d.serial → x.condemned ≡ Some j) w.live e old.children there parent);
        below_target = (
          old.below_target.0,
          old.below_target.1,
          ap (is_under (map mark w.live) old.below_target.0) ((sleep_keeps_tree s asleep).serial d) ∙ under_mapped mark w.live old.below_target.0 d.serial (sleep_keeps_tree s asleep) ∙ old.below_target.2,
        );
      }

  still_live : (x : ℕ) → is_live w.live x ≡ true → is_live (map mark w.live) x ≡ true
  still_live x h = live_mapped mark w.live x (sleep_keeps_tree s asleep) ∙ h

  still_known : (x : ℕ) → is_known w x ≡ true → is_known (marked w s asleep) x ≡ true
  still_known x h = ap (λ (b : Bool). x == 0 || b) (live_mapped mark w.live x (sleep_keeps_tree s asleep)) ∙ h

  still_target : (j t : ℕ) → IsFreed w j t → IsFreed (marked w s asleep) j t
  still_target j t old = (
    each_mapped (λ d. d.serial ≡ t → d.condemned ≡ Some j) mark w.live (each_of _ w.live (λ d here named.
        as_condemned s asleep d ∙ of_each (λ x. x.serial ≡ t → x.condemned ≡ Some j) w.live d old.0 here (sym ((sleep_keeps_tree s asleep).serial d) ∙ named))),
    still_live t old.1,
  )

  sound_marked : ((d : Dev) → Contains w.live d → IsTrue (mark d).asleep → IsSoundlyAsleep (marked w s asleep) (mark d)) → Sound (marked w s asleep)
  sound_marked sleeps = record {
    devices = devices_mapped w.setup mark w.live w.next (sleep_keeps_tree s asleep) sound.devices;
    refs = record { live_ones = all_imp (λ (r : Ref). IsTrue (is_live w.live r.serial)) (λ r. IsTrue (is_live (map mark w.live) r.serial)) (λ r. still_live r.serial) w.refs sound.refs.live_ones; counted = sound.refs.counted };
    condemned = each_mapped (λ d. (j : ℕ) → d.condemned ≡ Some j → IsSoundlyCondemned (marked w s asleep) d j) mark w.live (each_of _ w.live marked_condemned);
    asleep = each_mapped (λ d. IsTrue d.asleep → IsSoundlyAsleep (marked w s asleep) d) mark w.live (each_of _ w.live sleeps);
    frames = all_imp (λ c. AllByRecursion (λ f. IsTrue (is_known w (frame_serial f))) c.stack) (λ c. AllByRecursion (λ f. IsTrue (is_known (marked w s asleep) (frame_serial f))) c.stack)
        (λ c. all_imp (λ (f : Frame). IsTrue (is_known w (frame_serial f))) (λ f. IsTrue (is_known (marked w s asleep) (frame_serial f))) (λ f. still_known (frame_serial f)) c.stack) w.callers sound.frames;
    deferred = deferred_kept (marked w s asleep) w still_live (λ p h. h) w.deferred sound.deferred;
    callers = λ j. record {
      turn = (sound.callers j).turn;
      transfer = (sound.callers j).transfer;
      ended = (sound.callers j).ended;
      frames = (sound.callers j).frames;
      target = λ t e. still_target j t ((sound.callers j).target t e);
    };
    interrupts_on = sound.interrupts_on;
    boot = λ goes. absurd (goes booted);
  }

-- what slept before sleeps on
sleeps_on : (s : ℕ) (d : Dev) → d.asleep ≡ true → (with_sleep s true d).asleep ≡ true
sleeps_on s d h = elim (cases_eq d.serial s) [ inl e ↦ ap (λ (x : Dev). x.asleep) (is_named s true d e) | inr e ↦ ap (λ (x : Dev). x.asleep) (is_other s true d e) ∙ h ]

-- ---- the last of those awake falls asleep

module _ (w : World) (s target : ℕ) (d : Dev) (sound : Sound w) (booted : (caller_at w 0).doing ≡ activity.Ended) (live : is_live w.live target ≡ true)
    (last : next_sleep w.live target ≡ Some d) (named : d.serial ≡ s) (unpinned : is_pinned w d.serial ≡ false) where
  abbrev may_sleep : Dev → Bool
  may_sleep e = not e.asleep && is_under w.live target e.serial

  found_last : IsLast may_sleep (IsApart w.setup) w.live d
  unfolding next_sleep
  found_last = last_found may_sleep (IsApart w.setup) w.live d sound.devices.apart last

  -- its children sleep: they are below the target too, and came later
  children_sleep : (e : Dev) → Contains w.live e → e.parent ≡ s → e.asleep ≡ true
  children_sleep e here parent = elim (cases_Bool e.asleep) [
    | inl h ↦ h
    | inr awake ↦
        let up : AreRising w.live = rising w.setup w.live w.next sound.devices in
        let below : is_under w.live target d.serial ≡ true = (and_parts (not d.asleep) (is_under w.live target d.serial) found_last.passes).1 in
        let under : is_under w.live target e.serial ≡ true = under_child w.setup w.live target e sound.devices.apart up live here (rw (parent ∙ sym named) below) in
        let low : e.parent < e.serial = of_each (λ x. x.parent < x.serial) w.live e up here in
        elim (of_each (λ y. may_sleep y ≡ true → (y ≡ d) ⊎ IsApart w.setup y d) w.live e found_last.others here (and_from (not e.asleep) (is_under w.live target e.serial) (ap not awake) under)) [
          | inl same ↦ absurd (omega (arith, low, parent, named, ap (λ (x : Dev). x.serial) same))
          | inr apart ↦ absurd (omega (arith, low, parent, named, apart.later))
        ]
  ]

  falls_asleep : (e : Dev) → Contains w.live e → IsTrue (with_sleep s true e).asleep → IsSoundlyAsleep (marked w s true) (with_sleep s true e)
  falls_asleep e here sleeps = elim (cases_eq e.serial s) [
    | inl same ↦ record {
      unpinned = ap (is_pinned (marked w s true)) ((sleep_keeps_tree s true).serial e ∙ same ∙ sym named) ∙ pins w s true sound booted d.serial ∙ unpinned;
      children = marked_children w s true sound booted (λ x. IsTrue x.asleep) e (λ x there parent. sleeps_on s x (children_sleep x there (parent ∙ same)));
    }
    | inr other ↦
        let old = of_each (λ x. IsTrue x.asleep → IsSoundlyAsleep w x) w.live e sound.asleep here (sym (ap (λ (x : Dev). x.asleep) (is_other s true e other)) ∙ sleeps) in
        record {
          unpinned = ap (is_pinned (marked w s true)) ((sleep_keeps_tree s true).serial e) ∙ pins w s true sound booted e.serial ∙ old.unpinned;
          children = marked_children w s true sound booted (λ x. IsTrue x.asleep) e (λ x there parent. sleeps_on s x (of_each (λ y. y.parent ≡ e.serial → IsTrue y.asleep) w.live x old.children there parent));
        }
  ]

-- a later caller is in the middle of a power command
power_booted : (w : World) (k target : ℕ) (what : PowerKind) (d : Deed) → Kept w → next w k ≡ Does d → (caller_at w k).doing ≡ activity.Power what target → (caller_at w 0).doing ≡ activity.Ended
power_booted w k target what d kept chosen busy =
    let later : k ≢ 0 = amid_later w k kept.ranges (λ e. cc) (λ e. cc) in
    (later_one w k d chosen later (amid_no_frames w k kept.sound later (λ e. cc))).booted

pub sound_sleep : (w : World) (k s : ℕ) → Kept w → next w k ≡ Does (Sleep s) → Sound (after w k (Sleep s))
unfolding after
sound_sleep w k s kept chosen =
    let why = has_command_reason w k (Sleep s) chosen in
    let booted = power_booted w k why.target kind.Suspend (Sleep s) kept chosen why.amid in
    sound_marked w s true kept.sound booted (falls_asleep w s why.target why.dev kept.sound booted why.live why.last why.serial (rw why.serial why.unpinned))

-- ---- the first of those asleep wakes

module _ (w : World) (s target : ℕ) (whole : Bool) (d : Dev) (sound : Sound w) (booted : (caller_at w 0).doing ≡ activity.Ended) (live : is_live w.live target ≡ true)
    (first : next_wake w.live target whole ≡ Some d) (named : d.serial ≡ s) where
  abbrev may_wake : Dev → Bool
  may_wake e = e.asleep && (is_under w.live e.serial target || (whole && is_under w.live target e.serial))

  found_first : find may_wake w.live ≡ Some d
  unfolding next_wake
  found_first = first

  there : Contains w.live d
  there = found_contained may_wake w.live d found_first

  up : AreRising w.live
  up = rising w.setup w.live w.next sound.devices

  -- its parent is one of those that may wake too
  parent_counts : (e : Dev) → Contains w.live e → d.parent ≡ e.serial → (is_under w.live e.serial target || (whole && is_under w.live target e.serial)) ≡ true
  parent_counts e here parent =
      let parent_live : is_live w.live d.parent ≡ true = rw parent (contained_live w.live e here) in
      let above : is_under w.live d.serial target ≡ true → is_under w.live e.serial target ≡ true =
      λ h. rw parent at (under_up w.setup w.live d target sound.devices.apart up there parent_live h) in
      let passes = and_parts d.asleep (is_under w.live d.serial target || (whole && is_under w.live target d.serial)) (find_true may_wake w.live d found_first) in
      elim (or_cases (is_under w.live d.serial target) (whole && is_under w.live target d.serial) passes.1) [
        | inl h ↦ or_left (is_under w.live e.serial target) (whole && is_under w.live target e.serial) (above h)
        | inr h ↦ elim (cases_eq d.serial target) [
          | inl same ↦ or_left (is_under w.live e.serial target) (whole && is_under w.live target e.serial) (above (ap (λ (n : ℕ). is_under w.live n target) same ∙ under_itself w.live target up live))
          | inr other ↦
              let both = and_parts whole (is_under w.live target d.serial) h in
              or_right (is_under w.live e.serial target) (whole && is_under w.live target e.serial)
              (and_from whole (is_under w.live target e.serial) both.0 (rw parent at (under_parent w.setup w.live target d sound.devices.apart up live there both.1 other)))
        ]
      ]

  -- and so it is awake
  parent_awake : {A : Type 0} (e : Dev) → Contains w.live e → e.asleep ≡ true → d.parent ≡ e.serial → A
  parent_awake e here sleeps parent =
      let low : d.parent < d.serial = of_each (λ x. x.parent < x.serial) w.live d up there in
      let others = first_found may_wake (IsApart w.setup) w.live d sound.devices.apart found_first in
      elim (of_each (λ y. may_wake y ≡ true → (y ≡ d) ⊎ IsApart w.setup d y) w.live e others here (and_from e.asleep _ sleeps (parent_counts e here parent))) [
        | inl same ↦ absurd (omega (arith, low, parent, ap (λ (x : Dev). x.serial) same))
        | inr apart ↦ absurd (omega (arith, low, parent, apart.later))
      ]

  stays_asleep : (e : Dev) → Contains w.live e → IsTrue (with_sleep s false e).asleep → IsSoundlyAsleep (marked w s false) (with_sleep s false e)
  stays_asleep e here sleeps = elim (cases_eq e.serial s) [
    | inl same ↦ clash (with_sleep s false e).asleep sleeps (ap (λ (x : Dev). x.asleep) (is_named s false e same))
    | inr other ↦
        let slept : e.asleep ≡ true = sym (ap (λ (x : Dev). x.asleep) (is_other s false e other)) ∙ sleeps in
        let old = of_each (λ x. IsTrue x.asleep → IsSoundlyAsleep w x) w.live e sound.asleep here slept in
        record {
          unpinned = ap (is_pinned (marked w s false)) ((sleep_keeps_tree s false).serial e) ∙ pins w s false sound booted e.serial ∙ old.unpinned;
          children = marked_children w s false sound booted (λ x. IsTrue x.asleep) e (λ x inside parent.
              let different : x.serial ≢ s = λ same.
              parent_awake e here slept (ap (λ (y : Dev). y.parent) (one_serial w.setup w.live d x sound.devices.apart there inside (named ∙ sym same)) ∙ parent) in
              ap (λ (y : Dev). y.asleep) (is_other s false x different) ∙ of_each (λ y. y.parent ≡ e.serial → IsTrue y.asleep) w.live x old.children inside parent);
        }
  ]

pub sound_wake : (w : World) (k s : ℕ) → Kept w → next w k ≡ Does (Wake s) → Sound (after w k (Wake s))
unfolding after
sound_wake w k s kept chosen =
    let why = has_command_reason w k (Wake s) chosen in
    let booted = power_booted w k why.target why.kind (Wake s) kept chosen why.amid in
    sound_marked w s false kept.sound booted (stays_asleep w s why.target why.below why.dev kept.sound booted why.live why.first why.serial)
