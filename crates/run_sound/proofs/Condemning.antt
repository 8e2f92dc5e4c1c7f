-- A device is condemned with all below it, and its caller frees it from then on: the world stays sound.
use Rattle.std.proofs.Common.{◌≡◌, ◌≢◌, ◌↔◌, ◌⊎◌, ℕ, Bool, true, false, not, ◌&&◌, ◌||◌, ◌==◌, cond, List, [], ◌∷◌, Option, Some, None, refl, sym, ap, ◌∙◌, inl, inr, subst}
use Rattle.std.proofs.lemmas.Option.{same_Some}
use Rattle.std.specs.Prelude.{IsTrue, filter}
use Rattle.std.specs.List.{AllByRecursion, Contains}
use Rattle.std.proofs.lemmas.Bool.{cases_Bool}
use Rattle.cf_types.specs.declared.machine.Ticket.{Ticket}
use Rattle.run_rules.specs.declared.world.Dev.{Dev}
use Rattle.run_rules.specs.declared.world.Frame.{Frame}
use Rattle.run_rules.specs.declared.world.Activity.TheVariants as activity
use Rattle.run_rules.specs.declared.world.Ref.{Ref}
use Rattle.run_rules.specs.World.{World, Caller, is_live, is_under, is_held, is_pinned, is_number, is_condemned, policy_of, frame_serial, caller_at}
use Rattle.run_rules.specs.declared.deed.Deed.TheVariants.{Detach, Unplug}
use Rattle.run_rules.specs.declared.deed.Choice.TheVariants.{Does}
use Rattle.run_rules.specs.Next.{next, hindered, is_hindrance}
use Rattle.run_rules.specs.After.{after, with_condemner, condemned, doing}
use Rattle.run_rules.specs.Sound.{IsSoundlyCondemned, IsSoundlyAsleep, is_known, is_powering, IsFreed, Sound}
use Rattle.run_rules.proofs.Devices.{all_imp, none_of}
use Rattle.run_sound.proofs.Callers.{all_set, clash, pins_same, caller_here, caller_there, caller_each}
use Rattle.run_sound.proofs.Members.{not_condemned, of_each, each_of, each_mapped}
use Rattle.run_sound.proofs.Reasons.{has_command_reason}
use Rattle.run_sound.proofs.Trees.{rising, none_found, under_child, under_itself}
use Rattle.run_sound.proofs.Marks.{condemner_keeps_tree, live_mapped, under_mapped, devices_mapped}
use Rattle.run_sound.proofs.Plain.{IsLater, same_pins, same_scans, boots_not, deferred_kept, between_later, between_frees, between_power, no_turn, sound_absent, later_held}

-- ---- what nothing hinders

-- neither pinned nor condemned
abbrev pub IsUnhindered : World → ℕ → Dev → Type 0
IsUnhindered w s d = is_under w.live s d.serial ≡ true → (is_pinned w d.serial ≡ false) × (d.condemned ≡ None)

no_hindrance : (under driver pinned gone held : Bool) → (under && (driver || pinned || gone || held)) ≡ false → under ≡ true → (pinned ≡ false) × (gone ≡ false)
no_hindrance true false false false held h e = (refl, refl)
no_hindrance true true pinned gone held h e = absurd cc
no_hindrance true false true gone held h e = absurd cc
no_hindrance true false false true held h e = absurd cc
no_hindrance false driver pinned gone held h e = absurd cc

unhindered : (w : World) (s k : ℕ) (forced : Bool) → hindered w s k forced ≡ None → AllByRecursion (IsUnhindered w s) w.live
unfolding hindered
unhindered w s k forced e =
    all_imp (λ d. is_hindrance w s k forced d ≡ false) (IsUnhindered w s)
    (λ d h below. let free = no_hindrance (is_under w.live s d.serial) (not forced && (policy_of w.setup d.row).nodetach) (is_pinned w d.serial) (is_condemned d) (is_held w k d.serial) h below in (free.0, not_condemned d free.1))
    w.live (none_of (is_hindrance w s k forced) w.live (none_found (is_hindrance w s k forced) w.live e))

-- ---- the mark

is_marked : (live : List Dev) (k s : ℕ) (d : Dev) → is_under live s d.serial ≡ true → with_condemner live k s d ≡ record d { condemned = Some k }
is_marked live k s d e = ap (λ (b : Bool). cond b (record d { condemned = Some k }) d) e

is_spared : (live : List Dev) (k s : ℕ) (d : Dev) → is_under live s d.serial ≡ false → with_condemner live k s d ≡ d
is_spared live k s d e = ap (λ (b : Bool). cond b (record d { condemned = Some k }) d) e

as_asleep : (live : List Dev) (k s : ℕ) (d : Dev) → (with_condemner live k s d).asleep ≡ d.asleep
as_asleep live k s d = elim (cases_Bool (is_under live s d.serial)) [ inl e ↦ ap (λ (x : Dev). x.asleep) (is_marked live k s d e) | inr e ↦ ap (λ (x : Dev). x.asleep) (is_spared live k s d e) ]

none_some : {A : Type 0} (o : Option ℕ) (j : ℕ) → o ≡ None → o ≡ Some j → A
none_some o j n h = absurd cc

-- who is condemned by another caller was so before
as_condemned : (w : World) (k s j : ℕ) (d : Dev) → IsUnhindered w s d → d.condemned ≡ Some j → (with_condemner w.live k s d).condemned ≡ Some j
as_condemned w k s j d free c = elim (cases_Bool (is_under w.live s d.serial)) [
  | inl e ↦ none_some d.condemned j (free e).1 c
  | inr e ↦ ap (λ (x : Dev). x.condemned) (is_spared w.live k s d e) ∙ c
]

-- ---- the parts

module _ (w : World) (k s : ℕ) (sound : Sound w) (at : IsLater w k) (idle : ((caller_at w k).doing ≡ activity.Idle) ⊎ ((caller_at w k).doing ≡ activity.Scans))
    (live : is_live w.live s ≡ true) (free : AllByRecursion (IsUnhindered w s) w.live) where
  abbrev mark : Dev → Dev
  mark d = with_condemner w.live k s d

  abbrev frees : Caller
  frees = record { over = (caller_at w k).over; doing = activity.Frees s; stack = (caller_at w k).stack }

  abbrev doomed : World
  doomed = doing (condemned w k s) k (activity.Frees s)

  pins : (x : ℕ) → is_pinned doomed x ≡ is_pinned w x
  pins x = same_pins (condemned w k s) k frees at.no_frames at.no_frames x ∙ pins_same (condemned w k s) w x refl refl

  spared : (d : Dev) → Contains w.live d → IsUnhindered w s d
  spared d here = of_each (IsUnhindered w s) w.live d free here

  marked_one : (d : Dev) → Contains w.live d → is_under w.live s d.serial ≡ true → (j : ℕ) → k ≡ j → IsSoundlyCondemned doomed (record d { condemned = Some k }) j
  marked_one d here below j same = record {
    unpinned = pins d.serial ∙ (spared d here below).0;
    children = each_mapped (λ e. e.parent ≡ d.serial → e.condemned ≡ Some j) mark w.live (each_of _ w.live (λ e there parent.
        let up : e.parent ≡ d.serial = sym ((condemner_keeps_tree w.live k s).parent e) ∙ parent in
        let under : is_under w.live s e.serial ≡ true = under_child w.setup w.live s e sound.devices.apart (rising w.setup w.live w.next sound.devices) live there (rw up below) in
        ap (λ (x : Dev). x.condemned) (is_marked w.live k s e under) ∙ ap (λ (n : ℕ). Some n) same));
    below_target = (s, ap (λ (n : ℕ). (caller_at doomed n).doing) (sym same) ∙ ap (λ (c : Caller). c.doing) (caller_here (condemned w k s) k frees at.there), under_mapped mark w.live s d.serial (condemner_keeps_tree w.live k s) ∙ below);
  }

  -- another caller goes on freeing what it freed
  still_frees : (j t : ℕ) → (caller_at w j).doing ≡ activity.Frees t → (caller_at doomed j).doing ≡ activity.Frees t
  still_frees j t e =
      ap (λ (c : Caller). c.doing) (caller_there (condemned w k s) k j frees (λ same. between_frees (caller_at w k).doing t idle (ap (λ (n : ℕ). (caller_at w n).doing) (sym same) ∙ e))) ∙ e

  spared_one : (d : Dev) → Contains w.live d → (j : ℕ) → d.condemned ≡ Some j → IsSoundlyCondemned doomed d j
  spared_one d here j c =
      let old = of_each (λ x. (i : ℕ) → x.condemned ≡ Some i → IsSoundlyCondemned w x i) w.live d sound.condemned here j c in
      record {
        unpinned = pins d.serial ∙ old.unpinned;
        children = each_mapped (λ e. e.parent ≡ d.serial → e.condemned ≡ Some j) mark w.live (each_of _ w.live (λ e there parent.
            let up : e.parent ≡ d.serial = sym ((condemner_keeps_tree w.live k s).parent e) ∙ parent in
            as_condemned w k s j e (spared e there) (of_each (λ x. x.parent ≡ d.serial → x.condemned ≡ Some j) w.live e old.children there up)));
        below_target = (old.below_target.0, still_frees j old.below_target.0 old.below_target.1, under_mapped mark w.live old.below_target.0 d.serial (condemner_keeps_tree w.live k s) ∙ old.below_target.2);
      }

  new_condemned : (d : Dev) → Contains w.live d → (j : ℕ) → (mark d).condemned ≡ Some j → IsSoundlyCondemned doomed (mark d) j
  new_condemned d here j = elim (cases_Bool (is_under w.live s d.serial)) [
    | inl e ↦
        subst (λ (x : Dev). x.condemned ≡ Some j → IsSoundlyCondemned doomed x j) (sym (is_marked w.live k s d e)) (λ c. marked_one d here e j (same_Some k j c))
    | inr e ↦ subst (λ (x : Dev). x.condemned ≡ Some j → IsSoundlyCondemned doomed x j) (sym (is_spared w.live k s d e)) (spared_one d here j)
  ]

  new_asleep : (d : Dev) → Contains w.live d → IsTrue (mark d).asleep → IsSoundlyAsleep doomed (mark d)
  new_asleep d here sleeps =
      let old = of_each (λ x. IsTrue x.asleep → IsSoundlyAsleep w x) w.live d sound.asleep here (sym (as_asleep w.live k s d) ∙ sleeps) in
      record {
        unpinned = ap (is_pinned doomed) ((condemner_keeps_tree w.live k s).serial d) ∙ pins d.serial ∙ old.unpinned;
        children = each_mapped (λ e. e.parent ≡ (mark d).serial → IsTrue e.asleep) mark w.live (each_of _ w.live (λ e there parent.
            let up : e.parent ≡ d.serial = sym ((condemner_keeps_tree w.live k s).parent e) ∙ parent ∙ (condemner_keeps_tree w.live k s).serial d in
            as_asleep w.live k s e ∙ of_each (λ x. x.parent ≡ d.serial → IsTrue x.asleep) w.live e old.children there up));
      }

  still_known : (x : ℕ) → is_known w x ≡ true → is_known doomed x ≡ true
  still_known x h = ap (λ (b : Bool). x == 0 || b) (live_mapped mark w.live x (condemner_keeps_tree w.live k s)) ∙ h

  still_live : (x : ℕ) → is_live w.live x ≡ true → is_live doomed.live x ≡ true
  still_live x h = live_mapped mark w.live x (condemner_keeps_tree w.live k s) ∙ h

  own_target : (t : ℕ) → activity.Frees s ≡ activity.Frees t → IsFreed doomed k t
  own_target t e =
      let same : s ≡ t = cc in (
        each_mapped (λ d. d.serial ≡ t → d.condemned ≡ Some k) mark w.live (each_of _ w.live (λ d here named.
            let it : d.serial ≡ s = sym ((condemner_keeps_tree w.live k s).serial d) ∙ named ∙ sym same in
            ap (λ (x : Dev). x.condemned) (is_marked w.live k s d (ap (is_under w.live s) it ∙ under_itself w.live s (rising w.setup w.live w.next sound.devices) live)))),
        ap (is_live doomed.live) (sym same) ∙ still_live s live,
      )

  other_target : (j t : ℕ) → IsFreed w j t → IsFreed doomed j t
  other_target j t old = (
    each_mapped (λ d. d.serial ≡ t → d.condemned ≡ Some j) mark w.live (each_of _ w.live (λ d here named.
        as_condemned w k s j d (spared d here) (of_each (λ x. x.serial ≡ t → x.condemned ≡ Some j) w.live d old.0 here (sym ((condemner_keeps_tree w.live k s).serial d) ∙ named)))),
    still_live t old.1,
  )

  pub sound_condemned : Sound doomed
  sound_condemned =
      let u : World = condemned w k s in
      record {
        devices = devices_mapped w.setup mark w.live w.next (condemner_keeps_tree w.live k s) sound.devices;
        refs = record { live_ones = all_imp (λ (r : Ref). IsTrue (is_live w.live r.serial)) (λ r. IsTrue (is_live doomed.live r.serial)) (λ r. still_live r.serial) w.refs sound.refs.live_ones; counted = sound.refs.counted };
        condemned = each_mapped (λ d. (j : ℕ) → d.condemned ≡ Some j → IsSoundlyCondemned doomed d j) mark w.live (each_of _ w.live new_condemned);
        asleep = each_mapped (λ d. IsTrue d.asleep → IsSoundlyAsleep doomed d) mark w.live (each_of _ w.live new_asleep);
        frames = all_set (λ c. AllByRecursion (λ f. IsTrue (is_known doomed (frame_serial f))) c.stack) w.callers k frees
            (all_imp (λ c. AllByRecursion (λ f. IsTrue (is_known w (frame_serial f))) c.stack) (λ c. AllByRecursion (λ f. IsTrue (is_known doomed (frame_serial f))) c.stack)
            (λ c. all_imp (λ (f : Frame). IsTrue (is_known w (frame_serial f))) (λ f. IsTrue (is_known doomed (frame_serial f))) (λ f. still_known (frame_serial f)) c.stack) w.callers sound.frames)
            (rw at.no_frames tt);
        deferred = deferred_kept doomed w still_live (same_scans u k frees at.no_frames at.no_frames) w.deferred sound.deferred;
        callers = λ j. record {
          turn = caller_each (λ c. IsTrue (is_number w.power_owner j) ↔ IsTrue (is_powering c.doing)) u k j frees at.there
              (λ same. rw same (λ h. clash (is_number w.power_owner k) h (no_turn w k sound (between_power (caller_at w k).doing idle)), λ h. absurd cc)) (λ other. (sound.callers j).turn);
          transfer = caller_each (λ c. (t : Ticket) → c.doing ≡ activity.Transfer t → is_held w j t.serial ≡ true) u k j frees at.there (λ same t e. absurd cc) (λ other. (sound.callers j).transfer);
          ended = caller_each (λ c. c.doing ≡ activity.Ended → (c.stack ≡ []) × AllByRecursion (λ r. r.caller ≢ j) w.refs) u k j frees at.there (λ same e. absurd cc) (λ other. (sound.callers j).ended);
          frames = caller_each (λ c. IsTrue (not (j == 0)) → c.stack ≢ [] → c.doing ≡ activity.Scans) u k j frees at.there (λ same z some. absurd (some at.no_frames)) (λ other. (sound.callers j).frames);
          target = caller_each (λ c. (t : ℕ) → c.doing ≡ activity.Frees t → IsFreed doomed j t) u k j frees at.there (λ same. rw same own_target) (λ other t e. other_target j t ((sound.callers j).target t e));
        };
        interrupts_on = sound.interrupts_on;
        boot = λ goes. absurd (goes (boots_not u k frees at.later at.booted));
      }

-- ---- the deeds

pub sound_detach : (w : World) (k s : ℕ) → Sound w → next w k ≡ Does (Detach s) → Sound (after w k (Detach s))
unfolding after
sound_detach w k s sound chosen =
    let why = has_command_reason w k (Detach s) chosen in
    let at = why.begins.between in
    sound_condemned w k s sound (between_later w k (Detach s) chosen at) at.idle why.named.live (unhindered w s k false why.free)

pub sound_unplug : (w : World) (k x s : ℕ) → Sound w → next w k ≡ Does (Unplug x (Some s)) → Sound (after w k (Unplug x (Some s)))
unfolding after
sound_unplug w k x s sound chosen =
    let why = has_command_reason w k (Unplug x (Some s)) chosen in
    let at = why.begins.between in
    let here = between_later w k (Unplug x (Some s)) chosen at in
    let absent : List ℕ = x ∷ filter (λ y. not (y == x)) w.absent in
    let u : World = record w { absent = absent } in
    sound_condemned u k s (sound_absent w absent sound here.booted) (later_held w k w.refs w.sole absent here) at.idle why.live
    (all_imp (IsUnhindered w s) (IsUnhindered u s) (λ d h below. let free = h below in (pins_same u w d.serial refl refl ∙ free.0, free.1)) w.live (unhindered w s k true why.free))
