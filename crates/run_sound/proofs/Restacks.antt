-- A caller gets other frames, scans are put off or are no longer: the world stays sound where what is pinned then was pinned before, or is spared.
use Rattle.std.proofs.Common.{◌≡◌, ◌≢◌, ◌↔◌, ◌⊎◌, ℕ, zero, suc, ◌<◌, Bool, true, false, not, ◌||◌, ◌==◌, inl, inr, List, [], ◌∷◌, length, Option, Some, None, refl, sym, ap, ◌∙◌, subst, slice_set, eqb-true, eq-eqb}
use Rattle.std.proofs.lemmas.Bool.{false_from_ne_true, or_cases, or_left, or_right}
use Rattle.std.specs.Prelude.{IsTrue}
use Rattle.std.specs.List.{AllByRecursion, Contains}
use Rattle.cf_types.specs.declared.machine.Ticket.{Ticket}
use Rattle.run_rules.specs.declared.world.Dev.{Dev}
use Rattle.run_rules.specs.declared.world.Deferred.{Deferred}
use Rattle.run_rules.specs.declared.world.Key.TheVariants as key
use Rattle.run_rules.specs.declared.world.Activity.{Activity}
use Rattle.run_rules.specs.declared.world.Activity.TheVariants as activity
use Rattle.run_rules.specs.World.{World, Caller, caller_at, frame_serial, has_ended, is_held, is_live, is_number, is_pinned}
use Rattle.run_rules.specs.After.{with_caller}
use Rattle.run_rules.specs.Sound.{IsFreed, IsSoundBoot, IsSoundCaller, IsSoundlyAsleep, IsSoundlyCondemned, IsSoundlyDeferred, Sound, is_known, is_powering, others}
use Rattle.run_sound.proofs.Callers.{all_set, caller_each, caller_there, clash, entries_pin, frames_pin, any_set_from, stack_pins, unended_so}
use Rattle.run_sound.proofs.Reasons.{is_quiet}
use Rattle.run_sound.proofs.Members.{each_of, of_each}

-- neither condemned nor asleep, if it lives
abbrev pub IsSpared : List Dev → ℕ → Type 0
IsSpared live s = AllByRecursion (λ d. d.serial ≡ s → (d.condemned ≡ None) × (d.asleep ≡ false)) live

-- the world with another caller k, other scans put off, another list of finalisers, other hidden spots, and another place in the boot
abbrev pub restacked : World → ℕ → Caller → List Deferred → Bool → List ℕ → List ℕ → ℕ → Bool → World
restacked w k c entries interrupts_on finalisers hidden place pass_repeats = record w {
  callers = slice_set w.callers k c;
  deferred = entries;
  interrupts_on = interrupts_on;
  finalisers = finalisers;
  hidden = hidden;
  next_finaliser = place;
  pass_repeats = pass_repeats;
}

-- who is not ended may get this caller for itself: it goes on as before or is between commands, its frames are of known devices, and it has them in a rescan alone
pub record MayBe (w : World) (k : ℕ) (c : Caller) : Type 0 where
  pub there : k < length w.callers
  pub unended : has_ended w k ≡ false
  pub alone : has_ended w 0 ≡ false → k ≡ 0
  pub doing : (c.doing ≡ (caller_at w k).doing) ⊎ ((is_quiet c.doing ≡ true) × (is_quiet (caller_at w k).doing ≡ true))
  pub known : AllByRecursion (λ f. IsTrue (is_known w (frame_serial f))) c.stack
  pub scans : k ≢ 0 → c.stack ≢ [] → c.doing ≡ activity.Scans
  pub ended : c.doing ≡ activity.Ended → (c.stack ≡ []) × AllByRecursion (λ r. r.caller ≢ k) w.refs

-- what is pinned then was pinned before, or is spared
abbrev pub PinsFew : World → Caller → List Deferred → Type 0
PinsFew w c entries = (s : ℕ) → (stack_pins s c || entries_pin entries s) ≡ true → (is_pinned w s ≡ true) ⊎ IsSpared w.live s

-- ---- the caller

quiet_power : (a : Activity) → is_quiet a ≡ true → is_powering a ≡ false
quiet_power activity.Idle h = refl
quiet_power activity.Scans h = refl
quiet_power activity.Ended h = refl
quiet_power (activity.Transfer t) h = refl
quiet_power (activity.Frees s) h = refl
quiet_power (activity.Power kind s) h = absurd cc

quiet_frees : (a : Activity) (s : ℕ) → is_quiet a ≡ true → a ≢ activity.Frees s
quiet_frees a s h e = clash (is_quiet a) h (rw e refl)

quiet_transfer : (a : Activity) (t : Ticket) → is_quiet a ≡ true → a ≢ activity.Transfer t
quiet_transfer a t h e = clash (is_quiet a) h (rw e refl)

same_turn : (b x y : Bool) → x ≡ false → y ≡ false → (IsTrue b ↔ IsTrue x) → IsTrue b ↔ IsTrue y
same_turn b x y p q h = rw q (rw p at h)

own_turn : (w : World) (k : ℕ) (c : Caller) → Sound w → MayBe w k c → IsTrue (is_number w.power_owner k) ↔ IsTrue (is_powering c.doing)
own_turn w k c sound may = elim may.doing [
  | inl same ↦ rw same (sound.callers k).turn
  | inr quiet ↦ same_turn (is_number w.power_owner k) (is_powering (caller_at w k).doing) (is_powering c.doing) (quiet_power (caller_at w k).doing quiet.1) (quiet_power c.doing quiet.0) (sound.callers k).turn
]

own_transfer : (w : World) (k : ℕ) (c : Caller) → Sound w → MayBe w k c → (t : Ticket) → c.doing ≡ activity.Transfer t → is_held w k t.serial ≡ true
own_transfer w k c sound may t e = elim may.doing [
  | inl same ↦ (sound.callers k).transfer t (sym same ∙ e)
  | inr quiet ↦ absurd (quiet_transfer c.doing t quiet.0 e)
]

own_target : (w : World) (k : ℕ) (c : Caller) → Sound w → MayBe w k c → (s : ℕ) → c.doing ≡ activity.Frees s → IsFreed w k s
own_target w k c sound may s e = elim may.doing [
  | inl same ↦ (sound.callers k).target s (sym same ∙ e)
  | inr quiet ↦ absurd (quiet_frees c.doing s quiet.0 e)
]

own_frees : (w : World) (k : ℕ) (c : Caller) → MayBe w k c → (s : ℕ) → (caller_at w k).doing ≡ activity.Frees s → c.doing ≡ activity.Frees s
own_frees w k c may s e = elim may.doing [
  | inl same ↦ same ∙ e
  | inr quiet ↦ absurd (quiet_frees (caller_at w k).doing s quiet.1 e)
]

-- each caller still frees what it freed
still_frees : (w : World) (k j : ℕ) (c : Caller) (target : ℕ) → MayBe w k c → (caller_at w j).doing ≡ activity.Frees target → (caller_at (with_caller w k c) j).doing ≡ activity.Frees target
still_frees w k j c target may e =
    caller_each (λ x. x.doing ≡ activity.Frees target) w k j c may.there (λ same. own_frees w k c may target (subst (λ (i : ℕ). (caller_at w i).doing ≡ activity.Frees target) same e)) (λ other. e)

later_one : (k : ℕ) → IsTrue (not (k == 0)) → k ≢ 0
later_one k h e = clash (not (k == 0)) h (rw e refl)

each_caller : (w : World) (k : ℕ) (c : Caller) (entries : List Deferred) (interrupts_on : Bool) (finalisers hidden : List ℕ) (place : ℕ) (pass_repeats : Bool) → Sound w → MayBe w k c
    → (j : ℕ) → IsSoundCaller (restacked w k c entries interrupts_on finalisers hidden place pass_repeats) j
each_caller w k c entries interrupts_on finalisers hidden place pass_repeats sound may j = record {
  turn = caller_each (λ d. IsTrue (is_number w.power_owner j) ↔ IsTrue (is_powering d.doing)) w k j c may.there (λ same. rw same (own_turn w k c sound may)) (λ other. (sound.callers j).turn);
  transfer = caller_each (λ d. (t : Ticket) → d.doing ≡ activity.Transfer t → is_held w j t.serial ≡ true) w k j c may.there (λ same. rw same (own_transfer w k c sound may)) (λ other. (sound.callers j).transfer);
  ended = caller_each (λ d. d.doing ≡ activity.Ended → (d.stack ≡ []) × AllByRecursion (λ r. r.caller ≢ j) w.refs) w k j c may.there (λ same. rw same may.ended) (λ other. (sound.callers j).ended);
  frames = caller_each (λ d. IsTrue (not (j == 0)) → d.stack ≢ [] → d.doing ≡ activity.Scans) w k j c may.there (λ same later some. may.scans (later_one k (rw same at later)) some) (λ other. (sound.callers j).frames);
  target = caller_each (λ d. (s : ℕ) → d.doing ≡ activity.Frees s → IsFreed w j s) w k j c may.there (λ same. rw same (own_target w k c sound may)) (λ other. (sound.callers j).target);
}

-- ---- what is not pinned

pinned_then : (w : World) (k : ℕ) (c : Caller) (entries : List Deferred) (s : ℕ) → PinsFew w c entries → (frames_pin (slice_set w.callers k c) s || entries_pin entries s) ≡ true → (is_pinned w s ≡ true) ⊎ IsSpared w.live s
unfolding is_pinned
pinned_then w k c entries s pins h = elim (or_cases (frames_pin (slice_set w.callers k c) s) (entries_pin entries s) h) [
  | inl frame ↦ elim (any_set_from (stack_pins s) w.callers k c frame) [
    | inl before ↦ inl (or_left (frames_pin w.callers s) (entries_pin w.deferred s) before)
    | inr now ↦ pins s (or_left (stack_pins s c) (entries_pin entries s) now)
  ]
  | inr entry ↦ pins s (or_right (stack_pins s c) (entries_pin entries s) entry)
]

-- a device that was not pinned and is not spared is not pinned then
still_unpinned : (w : World) (k : ℕ) (c : Caller) (entries : List Deferred) (interrupts_on : Bool) (finalisers hidden : List ℕ) (place : ℕ) (pass_repeats : Bool) (s : ℕ) → PinsFew w c entries
    → is_pinned w s ≡ false → (IsSpared w.live s → ⊥) → is_pinned (restacked w k c entries interrupts_on finalisers hidden place pass_repeats) s ≡ false
unfolding is_pinned
still_unpinned w k c entries interrupts_on finalisers hidden place pass_repeats s pins old bad =
    false_from_ne_true (frames_pin (slice_set w.callers k c) s || entries_pin entries s)
    (λ h. elim (pinned_then w k c entries s pins h) [ inl before ↦ clash (is_pinned w s) before old | inr spared ↦ bad spared ])

spared_at : (live : List Dev) (d : Dev) → Contains live d → IsSpared live d.serial → (d.condemned ≡ None) × (d.asleep ≡ false)
spared_at live d here h = of_each (λ e. e.serial ≡ d.serial → (e.condemned ≡ None) × (e.asleep ≡ false)) live d h here refl

pub no_condemner : (o : Option ℕ) (k : ℕ) → o ≡ None → o ≡ Some k → ⊥
no_condemner None k a b = cc
no_condemner (Some j) k a b = cc

each_condemned : (w : World) (k : ℕ) (c : Caller) (entries : List Deferred) (interrupts_on : Bool) (finalisers hidden : List ℕ) (place : ℕ) (pass_repeats : Bool) → Sound w → MayBe w k c → PinsFew w c entries
    → AllByRecursion (λ d. (j : ℕ) → d.condemned ≡ Some j → IsSoundlyCondemned (restacked w k c entries interrupts_on finalisers hidden place pass_repeats) d j) w.live
each_condemned w k c entries interrupts_on finalisers hidden place pass_repeats sound may pins = each_of _ w.live one
  where
    one : (d : Dev) → Contains w.live d → (j : ℕ) → d.condemned ≡ Some j → IsSoundlyCondemned (restacked w k c entries interrupts_on finalisers hidden place pass_repeats) d j
    one d here j e =
        let old : IsSoundlyCondemned w d j = of_each (λ d. (k : ℕ) → d.condemned ≡ Some k → IsSoundlyCondemned w d k) w.live d sound.condemned here j e in
        record {
          unpinned = still_unpinned w k c entries interrupts_on finalisers hidden place pass_repeats d.serial pins old.unpinned (λ spared. no_condemner d.condemned j (spared_at w.live d here spared).0 e);
          children = old.children;
          below_target = (old.below_target.0, still_frees w k j c old.below_target.0 may old.below_target.1, old.below_target.2);
        }

each_asleep : (w : World) (k : ℕ) (c : Caller) (entries : List Deferred) (interrupts_on : Bool) (finalisers hidden : List ℕ) (place : ℕ) (pass_repeats : Bool) → Sound w → PinsFew w c entries
    → AllByRecursion (λ d. IsTrue d.asleep → IsSoundlyAsleep (restacked w k c entries interrupts_on finalisers hidden place pass_repeats) d) w.live
each_asleep w k c entries interrupts_on finalisers hidden place pass_repeats sound pins = each_of _ w.live one
  where
    one : (d : Dev) → Contains w.live d → IsTrue d.asleep → IsSoundlyAsleep (restacked w k c entries interrupts_on finalisers hidden place pass_repeats) d
    one d here asleep =
        let old : IsSoundlyAsleep w d = of_each (λ d. IsTrue d.asleep → IsSoundlyAsleep w d) w.live d sound.asleep here asleep in
        record {
          unpinned = still_unpinned w k c entries interrupts_on finalisers hidden place pass_repeats d.serial pins old.unpinned (λ spared. clash d.asleep asleep (spared_at w.live d here spared).1);
          children = old.children;
        }

-- ---- the boot

same_others : (cs : List Caller) (k : ℕ) (c : Caller) → k ≡ 0 → others (slice_set cs k c) ≡ others cs
same_others [] k c e = refl
same_others (x ∷ xs) zero c e = refl
same_others (x ∷ xs) (suc k) c e = absurd cc

boot_before : (w : World) (k : ℕ) (c : Caller) → MayBe w k c → (caller_at (with_caller w k c) 0).doing ≢ activity.Ended → (caller_at w 0).doing ≢ activity.Ended
boot_before w k c may goes e = cases (k == 0) refl
  where
    cases : (b : Bool) → (k == 0) ≡ b → ⊥
    cases true z = let first : k ≡ 0 = eqb-true k 0 z in clash (has_ended w k) (rw (first, e) refl) may.unended
    cases false z = goes (ap (λ (d : Caller). d.doing) (caller_there w k 0 c (λ same. clash (k == 0) (eq-eqb k 0 (sym same)) z)) ∙ e)

boot_goes : (w : World) (k : ℕ) (c : Caller) (entries : List Deferred) (interrupts_on : Bool) (finalisers hidden : List ℕ) (place : ℕ) (pass_repeats : Bool) → Sound w → MayBe w k c
    → (has_ended w 0 ≡ false → AllByRecursion (λ s. IsTrue (is_live w.live s)) finalisers)
    → (caller_at (with_caller w k c) 0).doing ≢ activity.Ended → IsSoundBoot (restacked w k c entries interrupts_on finalisers hidden place pass_repeats)
boot_goes w k c entries interrupts_on finalisers hidden place pass_repeats sound may live goes =
    let before : (caller_at w 0).doing ≢ activity.Ended = boot_before w k c may goes in
    let old : IsSoundBoot w = sound.boot before in
    let on : has_ended w 0 ≡ false = unended_so w 0 before in
    record {
      awake = old.awake;
      spared = old.spared;
      no_refs = old.no_refs;
      no_turn = old.no_turn;
      waiting = rw (same_others w.callers k c (may.alone on)) old.waiting;
      finalisers = live on;
    }

-- ---- all of it

pub sound_restacked : (w : World) (k : ℕ) (c : Caller) (entries : List Deferred) (interrupts_on : Bool) (finalisers hidden : List ℕ) (place : ℕ) (pass_repeats : Bool) → Sound w → MayBe w k c → PinsFew w c entries
    → AllByRecursion (IsSoundlyDeferred (restacked w k c entries interrupts_on finalisers hidden place pass_repeats)) entries
    → (IsTrue interrupts_on → AllByRecursion (λ e. e.key ≢ key.Interrupts) entries)
    → (has_ended w 0 ≡ false → AllByRecursion (λ s. IsTrue (is_live w.live s)) finalisers)
    → Sound (restacked w k c entries interrupts_on finalisers hidden place pass_repeats)
sound_restacked w k c entries interrupts_on finalisers hidden place pass_repeats sound may pins put_off on live = record {
  devices = sound.devices;
  refs = sound.refs;
  condemned = each_condemned w k c entries interrupts_on finalisers hidden place pass_repeats sound may pins;
  asleep = each_asleep w k c entries interrupts_on finalisers hidden place pass_repeats sound pins;
  frames = all_set (λ (d : Caller). AllByRecursion (λ f. IsTrue (is_known w (frame_serial f))) d.stack) w.callers k c sound.frames may.known;
  deferred = put_off;
  callers = each_caller w k c entries interrupts_on finalisers hidden place pass_repeats sound may;
  interrupts_on = on;
  boot = boot_goes w k c entries interrupts_on finalisers hidden place pass_repeats sound may live;
}
