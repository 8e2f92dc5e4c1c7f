-- A caller that does not boot changes what it is in the middle of, and no frames: the world stays sound. Then deeds that change nothing else.
use Rattle.std.proofs.Common.{◌≡◌, ◌≢◌, ◌↔◌, ◌⊎◌, ℕ, ◌+◌, ◌<◌, ◌==◌, Bool, true, false, not, ◌&&◌, List, [], ◌∷◌, length, Option, Some, None, refl, sym, ap, subst, ◌∙◌, inl, inr}
use Rattle.std.proofs.lemmas.Bool.{false_from_ne_true}
use Rattle.std.specs.Prelude.{IsTrue, filter}
use Rattle.std.specs.List.{AllByRecursion, list_any}
use Rattle.cf_types.specs.declared.machine.Ticket.{Ticket}
use Rattle.run_rules.specs.declared.world.Dev.{Dev}
use Rattle.run_rules.specs.declared.world.Frame.{Frame}
use Rattle.run_rules.specs.declared.world.Key.{Key}
use Rattle.run_rules.specs.declared.world.Key.TheVariants as key
use Rattle.run_rules.specs.declared.world.Deferred.{Deferred}
use Rattle.run_rules.specs.declared.world.Activity.{Activity}
use Rattle.run_rules.specs.declared.world.Activity.TheVariants as activity
use Rattle.run_rules.specs.declared.world.Ref.{Ref}
use Rattle.run_rules.specs.World.{World, Caller, is_live, is_held, is_pinned, is_number, nobody, frame_serial, caller_at}
use Rattle.run_rules.specs.declared.deed.Deed.{Deed}
use Rattle.run_rules.specs.declared.deed.Deed.TheVariants.{Refuse, Tell, Plug, Unplug}
use Rattle.run_rules.specs.declared.deed.Choice.TheVariants.{Does}
use Rattle.run_rules.specs.Next.{next}
use Rattle.run_rules.specs.After.{after, with_caller, over}
use Rattle.run_rules.specs.Sound.{HasSoundRefs, IsSoundlyCondemned, IsSoundlyAsleep, is_scan_of, IsSoundlyDeferred, is_powering, is_known, IsFreed, Sound}
use Rattle.run_rules.proofs.Devices.{all_imp, all_both}
use Rattle.run_sound.proofs.Callers.{all_set, clash, is_ended_so, pins_same, caller_there, caller_each, pins_kept, any_set_same, doing_so, doing_there}
use Rattle.run_sound.proofs.Commands.{IsBetween}
use Rattle.run_sound.proofs.Reasons.{has_command_reason}
use Rattle.run_rules.specs.declared.deed.CommandRefusal.{CommandRefusal}

-- ---- the parts that speak of each device, where the devices stay

abbrev pub AreSoundlyCondemned : World → List Dev → Type 0
AreSoundlyCondemned w live = AllByRecursion (λ d. (k : ℕ) → d.condemned ≡ Some k → IsSoundlyCondemned w d k) live

abbrev pub AreSoundlyAsleep : World → List Dev → Type 0
AreSoundlyAsleep w live = AllByRecursion (λ d. IsTrue d.asleep → IsSoundlyAsleep w d) live

pub condemned_kept : (v w : World) → v.live ≡ w.live → ((s : ℕ) → is_pinned v s ≡ is_pinned w s) → ((j s : ℕ) → (caller_at w j).doing ≡ activity.Frees s → (caller_at v j).doing ≡ activity.Frees s)
    → AreSoundlyCondemned w w.live → AreSoundlyCondemned v v.live
condemned_kept v w live pins frees h =
    subst (AreSoundlyCondemned v) (sym live) (all_imp (λ d. (k : ℕ) → d.condemned ≡ Some k → IsSoundlyCondemned w d k) (λ d. (k : ℕ) → d.condemned ≡ Some k → IsSoundlyCondemned v d k)
    (λ d p k c. let old = p k c in record {
      unpinned = pins d.serial ∙ old.unpinned;
      children = rw live old.children;
      below_target = (old.below_target.0, frees k old.below_target.0 old.below_target.1, rw live old.below_target.2);
    }) w.live h)

pub asleep_kept : (v w : World) → v.live ≡ w.live → ((s : ℕ) → is_pinned v s ≡ is_pinned w s) → AreSoundlyAsleep w w.live → AreSoundlyAsleep v v.live
asleep_kept v w live pins h =
    subst (AreSoundlyAsleep v) (sym live) (all_imp (λ d. IsTrue d.asleep → IsSoundlyAsleep w d) (λ d. IsTrue d.asleep → IsSoundlyAsleep v d)
    (λ d p a. let old = p a in record { unpinned = pins d.serial ∙ old.unpinned; children = rw live old.children }) w.live h)

-- whether some caller scans the device
abbrev pub is_scanned : World → ℕ → Bool
is_scanned w p = list_any (λ c. list_any (is_scan_of p) c.stack) w.callers

-- where their devices are live
pub deferred_live : (v w : World) → ((p : ℕ) → is_scanned w p ≡ true → is_scanned v p ≡ true)
    → (es : List Deferred) → AllByRecursion (λ e. is_live v.live e.child ≡ true) es → AllByRecursion (IsSoundlyDeferred w) es → AllByRecursion (IsSoundlyDeferred v) es
deferred_live v w scans es live h = all_both (λ e. is_live v.live e.child ≡ true) (IsSoundlyDeferred w) (IsSoundlyDeferred v) (λ e l p. entry e.key e.child l p) es live h
  where
    entry : (which : Key) (child : ℕ) → is_live v.live child ≡ true → IsSoundlyDeferred w (record { key = which; child = child }) → IsSoundlyDeferred v (record { key = which; child = child })
    entry key.Interrupts child l p = (l, tt)
    entry (key.Parent q) child l p = (l, scans q p.1)

-- where what was live is live
pub deferred_kept : (v w : World) → ((s : ℕ) → is_live w.live s ≡ true → is_live v.live s ≡ true) → ((p : ℕ) → is_scanned w p ≡ true → is_scanned v p ≡ true)
    → (es : List Deferred) → AllByRecursion (IsSoundlyDeferred w) es → AllByRecursion (IsSoundlyDeferred v) es
deferred_kept v w live scans es h = deferred_live v w scans es (all_imp (IsSoundlyDeferred w) (λ e. is_live v.live e.child ≡ true) (λ e p. live e.child p.0) es h) h

-- ---- a caller changes

-- what the caller comes to, and the power turn with it, agrees with the rest of the world
pub record Agrees (w : World) (k : ℕ) (turn : Option ℕ) (c : Caller) : Type 0 where
  pub no_frames : c.stack ≡ []
  pub own : IsTrue (is_number turn k) ↔ IsTrue (is_powering c.doing)
  pub theirs : (j : ℕ) → j ≢ k → is_number turn j ≡ is_number w.power_owner j
  pub frees : (s : ℕ) → (caller_at w k).doing ≡ activity.Frees s → c.doing ≡ activity.Frees s
  pub transfer : (t : Ticket) → c.doing ≡ activity.Transfer t → is_held w k t.serial ≡ true
  pub unended : c.doing ≢ activity.Ended
  pub target : (s : ℕ) → c.doing ≡ activity.Frees s → IsFreed w k s

-- a later caller that runs, without frames
pub record IsLater (w : World) (k : ℕ) : Type 0 where
  pub there : k < length w.callers
  pub later : k ≢ 0
  pub booted : (caller_at w 0).doing ≡ activity.Ended
  pub no_frames : (caller_at w k).stack ≡ []

pub same_pins : (w : World) (k : ℕ) (c : Caller) → (caller_at w k).stack ≡ [] → c.stack ≡ [] → (s : ℕ) → is_pinned (with_caller w k c) s ≡ is_pinned w s
same_pins w k c was is s = pins_kept w k s c (rw (was, is) refl)

pub same_scans : (w : World) (k : ℕ) (c : Caller) → (caller_at w k).stack ≡ [] → c.stack ≡ [] → (p : ℕ) → is_scanned w p ≡ true → is_scanned (with_caller w k c) p ≡ true
same_scans w k c was is p h = any_set_same (λ d. list_any (is_scan_of p) d.stack) w.callers k c nobody (rw (was, is) refl) ∙ h

pub boots_not : (w : World) (k : ℕ) (c : Caller) → k ≢ 0 → (caller_at w 0).doing ≡ activity.Ended → (caller_at (with_caller w k c) 0).doing ≡ activity.Ended
boots_not w k c later booted = ap (λ (d : Caller). d.doing) (caller_there w k 0 c (λ e. later (sym e))) ∙ booted

pub sound_caller : (w : World) (k : ℕ) (turn : Option ℕ) (c : Caller) → Sound w → IsLater w k → Agrees w k turn c → Sound (with_caller (record w { power_owner = turn }) k c)
sound_caller w k turn c sound at new =
    let u : World = record w { power_owner = turn } in
    let v : World = with_caller u k c in
    let pins : (s : ℕ) → is_pinned v s ≡ is_pinned w s = λ s. same_pins u k c at.no_frames new.no_frames s ∙ pins_same u w s refl refl in
    let frees : (j s : ℕ) → (caller_at w j).doing ≡ activity.Frees s → (caller_at v j).doing ≡ activity.Frees s =
    λ j s e. caller_each (λ d. d.doing ≡ activity.Frees s) u k j c at.there (λ same. new.frees s (rw same at e)) (λ other. e) in
    record {
      devices = sound.devices;
      refs = sound.refs;
      condemned = condemned_kept v w refl pins frees sound.condemned;
      asleep = asleep_kept v w refl pins sound.asleep;
      frames = all_set (λ d. AllByRecursion (λ f. IsTrue (is_known w (frame_serial f))) d.stack) w.callers k c sound.frames (rw new.no_frames tt);
      deferred = deferred_kept v w (λ s h. h) (same_scans u k c at.no_frames new.no_frames) w.deferred sound.deferred;
      callers = λ j. record {
        turn = caller_each (λ d. IsTrue (is_number turn j) ↔ IsTrue (is_powering d.doing)) u k j c at.there (λ same. rw same new.own) (λ other. rw (new.theirs j other) (sound.callers j).turn);
        transfer = caller_each (λ d. (t : Ticket) → d.doing ≡ activity.Transfer t → is_held w j t.serial ≡ true) u k j c at.there (λ same. rw same new.transfer) (λ other. (sound.callers j).transfer);
        ended = caller_each (λ d. d.doing ≡ activity.Ended → (d.stack ≡ []) × AllByRecursion (λ r. r.caller ≢ j) w.refs) u k j c at.there (λ same e. absurd (new.unended e)) (λ other. (sound.callers j).ended);
        frames = caller_each (λ d. IsTrue (not (j == 0)) → d.stack ≢ [] → d.doing ≡ activity.Scans) u k j c at.there (λ same z some. absurd (some new.no_frames)) (λ other. (sound.callers j).frames);
        target = caller_each (λ d. (s : ℕ) → d.doing ≡ activity.Frees s → IsFreed w j s) u k j c at.there (λ same. rw same new.target) (λ other. (sound.callers j).target);
      };
      interrupts_on = sound.interrupts_on;
      boot = λ goes. absurd (goes (boots_not u k c at.later at.booted));
    }

-- ---- between two commands

pub later_one : (w : World) (k : ℕ) (d : Deed) → next w k ≡ Does d → k ≢ 0 → (caller_at w k).stack ≡ [] → IsLater w k
later_one w k d chosen later none =
    let so = doing_so w k d chosen in
    record { there = doing_there w k d chosen; later = later; booted = is_ended_so (caller_at w 0).doing (so.after_boot later); no_frames = none }

pub between_later : (w : World) (k : ℕ) (d : Deed) → next w k ≡ Does d → IsBetween w k → IsLater w k
between_later w k d chosen at = later_one w k d chosen at.later at.no_frames

-- then it frees nothing, and has no turn
pub between_frees : (a : Activity) (s : ℕ) → (a ≡ activity.Idle) ⊎ (a ≡ activity.Scans) → a ≢ activity.Frees s
between_frees a s (inl e) h = cc
between_frees a s (inr e) h = cc

pub between_power : (a : Activity) → (a ≡ activity.Idle) ⊎ (a ≡ activity.Scans) → is_powering a ≡ false
between_power a (inl e) = rw e refl
between_power a (inr e) = rw e refl

pub no_turn : (w : World) (k : ℕ) → Sound w → is_powering (caller_at w k).doing ≡ false → is_number w.power_owner k ≡ false
no_turn w k sound off = false_from_ne_true (is_number w.power_owner k) (λ h. clash (is_powering (caller_at w k).doing) ((sound.callers k).turn.0 h) off)

-- its command is over, and then it is idle
pub agrees_idle : (w : World) (k over : ℕ) (turn : Option ℕ) (stack : List Frame) → stack ≡ [] → is_number turn k ≡ false → ((j : ℕ) → j ≢ k → is_number turn j ≡ is_number w.power_owner j)
    → ((s : ℕ) → (caller_at w k).doing ≢ activity.Frees s) → Agrees w k turn (record { over = over; doing = activity.Idle; stack = stack })
agrees_idle w k over turn stack none own theirs frees = record {
  no_frames = none;
  own = (λ h. clash (is_number turn k) h own, λ h. absurd cc);
  theirs = theirs;
  frees = λ s e. absurd (frees s e);
  transfer = λ t e. absurd cc;
  unended = λ e. cc;
  target = λ s e. absurd cc;
}

-- between two commands one is over
pub sound_over : (w : World) (k : ℕ) → Sound w → IsLater w k → ((caller_at w k).doing ≡ activity.Idle) ⊎ ((caller_at w k).doing ≡ activity.Scans) → Sound (over w k)
sound_over w k sound at idle =
    sound_caller w k w.power_owner (record { over = (caller_at w k).over + 1; doing = activity.Idle; stack = (caller_at w k).stack }) sound at
    (agrees_idle w k ((caller_at w k).over + 1) w.power_owner (caller_at w k).stack at.no_frames (no_turn w k sound (between_power (caller_at w k).doing idle)) (λ j other. refl)
    (λ s. between_frees (caller_at w k).doing s idle))

-- ---- the references change, or the spots without hardware

-- the references agree with the rest of the world
pub record AreHeld (w : World) (refs : List Ref) (sole : List ℕ) : Type 0 where
  pub sound : HasSoundRefs w.live refs sole
  pub transfers : (k : ℕ) (t : Ticket) → (caller_at w k).doing ≡ activity.Transfer t → list_any (λ r. r.serial == t.serial && r.caller == k) refs ≡ true
  pub ended : (k : ℕ) → (caller_at w k).doing ≡ activity.Ended → AllByRecursion (λ r. r.caller ≢ k) refs

pub sound_held : (w : World) (refs : List Ref) (sole absent : List ℕ) → Sound w → (caller_at w 0).doing ≡ activity.Ended → AreHeld w refs sole → Sound (record w { refs = refs; sole = sole; absent = absent })
sound_held w refs sole absent sound booted held =
    let v : World = record w { refs = refs; sole = sole; absent = absent } in
    let pins : (s : ℕ) → is_pinned v s ≡ is_pinned w s = λ s. pins_same v w s refl refl in
    record {
      devices = sound.devices;
      refs = held.sound;
      condemned = condemned_kept v w refl pins (λ j s e. e) sound.condemned;
      asleep = asleep_kept v w refl pins sound.asleep;
      frames = sound.frames;
      deferred = deferred_kept v w (λ s h. h) (λ p h. h) w.deferred sound.deferred;
      callers = λ j. record {
        turn = (sound.callers j).turn;
        transfer = held.transfers j;
        ended = λ e. (((sound.callers j).ended e).0, held.ended j e);
        frames = (sound.callers j).frames;
        target = (sound.callers j).target;
      };
      interrupts_on = sound.interrupts_on;
      boot = λ goes. absurd (goes booted);
    }

-- the references stay
pub held_still : (w : World) → Sound w → AreHeld w w.refs w.sole
held_still w sound = record { sound = sound.refs; transfers = λ k. (sound.callers k).transfer; ended = λ k e. ((sound.callers k).ended e).1 }

pub sound_absent : (w : World) (absent : List ℕ) → Sound w → (caller_at w 0).doing ≡ activity.Ended → Sound (record w { absent = absent })
sound_absent w absent sound booted = sound_held w w.refs w.sole absent sound booted (held_still w sound)

-- the same caller, with other references or spots
pub later_held : (w : World) (k : ℕ) (refs : List Ref) (sole absent : List ℕ) → IsLater w k → IsLater (record w { refs = refs; sole = sole; absent = absent }) k
later_held w k refs sole absent at = record { there = at.there; later = at.later; booted = at.booted; no_frames = at.no_frames }

-- ---- deeds that change nothing else

pub sound_refused : (w : World) (k : ℕ) (why : CommandRefusal) → Sound w → next w k ≡ Does (Refuse why) → Sound (after w k (Refuse why))
unfolding after
sound_refused w k why sound chosen = let at = (has_command_reason w k (Refuse why) chosen).between in sound_over w k sound (between_later w k (Refuse why) chosen at) at.idle

pub sound_tell : (w : World) (k : ℕ) → Sound w → next w k ≡ Does Tell → Sound (after w k Tell)
unfolding after
sound_tell w k sound chosen = let at = (has_command_reason w k Tell chosen).begins.between in sound_over w k sound (between_later w k Tell chosen at) at.idle

pub sound_plug : (w : World) (k x : ℕ) → Sound w → next w k ≡ Does (Plug x) → Sound (after w k (Plug x))
unfolding after
sound_plug w k x sound chosen =
    let at = (has_command_reason w k (Plug x) chosen).begins.between in
    let here = between_later w k (Plug x) chosen at in
    let absent : List ℕ = filter (λ y. not (y == x)) w.absent in
    sound_over (record w { absent = absent }) k (sound_absent w absent sound here.booted) (later_held w k w.refs w.sole absent here) at.idle

-- the spot is bare
pub sound_pull : (w : World) (k x : ℕ) → Sound w → next w k ≡ Does (Unplug x None) → Sound (after w k (Unplug x None))
unfolding after
sound_pull w k x sound chosen =
    let at = (has_command_reason w k (Unplug x None) chosen).begins.between in
    let here = between_later w k (Unplug x None) chosen at in
    let absent : List ℕ = x ∷ filter (λ y. not (y == x)) w.absent in
    sound_over (record w { absent = absent }) k (sound_absent w absent sound here.booted) (later_held w k w.refs w.sole absent here) at.idle
