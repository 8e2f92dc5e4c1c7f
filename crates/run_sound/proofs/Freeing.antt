-- The last device that a caller condemned goes: it has no children, no references and no frames, and the world stays sound.
use Rattle.std.proofs.Common.{◌≡◌, ◌≢◌, ◌↔◌, ◌⊎◌, ℕ, zero, suc, ◌+◌, ◌<◌, ◌≤◌, Bool, true, false, not, ◌&&◌, ◌==◌, List, [], ◌∷◌, length, find, reverse, option_map, Option, Some, None, refl, sym, ap, ◌∙◌, subst, inl, inr, arith, eqb-true, eq-eqb}
use Rattle.std.proofs.lemmas.Option.{same_Some}
use Rattle.std.specs.Prelude.{IsTrue, filter}
use Rattle.std.specs.List.{AllByRecursion, Contains, list_any}
use Rattle.std.specs.Option.{option_map_or}
use Rattle.std.proofs.lemmas.Bool.{eqb-false, ne_eqb, cond_both, not-true, or_cases, or_left, or_right}
use Rattle.std.proofs.lemmas.List.{set-get_or}
use Rattle.std.proofs.lemmas.List.Filters.{length-filter_both}
use Rattle.cf_types.specs.declared.machine.Ticket.{Ticket}
use Rattle.run_rules.specs.declared.world.Dev.{Dev}
use Rattle.run_rules.specs.declared.world.Frame.{Frame}
use Rattle.run_rules.specs.declared.world.Deferred.{Deferred}
use Rattle.run_rules.specs.declared.world.Activity.TheVariants as activity
use Rattle.run_rules.specs.declared.world.Ref.{Ref}
use Rattle.run_rules.specs.World.{World, Caller, has, is_live, is_under, is_held, is_pinned, is_number, is_referred, frame_serial, parent_of, lineage, nobody, caller_at}
use Rattle.run_rules.specs.declared.deed.Deed.TheVariants.{Free}
use Rattle.run_rules.specs.declared.deed.Choice.TheVariants.{Does}
use Rattle.run_rules.specs.Next.{next, next_free}
use Rattle.run_rules.specs.After.{after, with_caller, freed, freeing_target, over}
use Rattle.run_rules.specs.Sound.{IsApart, IsPlaced, HasSoundDevices, HasSoundRefs, IsSoundlyCondemned, IsSoundlyAsleep, is_known, IsSoundlyDeferred, is_powering, IsFreed, Sound}
use Rattle.run_sound.specs.Kept.{Kept}
use Rattle.run_rules.proofs.Devices.{all_imp, all_both, none_of, or_false}
use Rattle.run_rules.proofs.Turns.{find_filter, find_same}
use Rattle.run_sound.proofs.Callers.{all_set, all_filter, clash, pins_same, caller_each}
use Rattle.run_sound.proofs.Members.{of_each, each_of, each_passed, any_passed, later_passed}
use Rattle.run_sound.proofs.Commands.{FreesLast}
use Rattle.run_sound.proofs.Reasons.{has_command_reason}
use Rattle.run_sound.proofs.Trees.{AreRising, rising, parent_cases, any_steps}
use Rattle.run_sound.proofs.Lasts.{last_found}
use Rattle.run_sound.proofs.Plain.{IsLater, same_pins, same_scans, boots_not, deferred_live, later_one, no_turn}
use Rattle.run_sound.proofs.References.{amid_later, amid_no_frames}

-- ---- a device without children goes

-- no device has it for its parent
abbrev IsChildless : List Dev → ℕ → Type 0
IsChildless live s = AllByRecursion (λ d. d.parent ≢ s) live

abbrev without : List Dev → ℕ → List Dev
without live s = filter (λ d. not (d.serial == s)) live

module _ (live : List Dev) (s : ℕ) (up : AreRising live) (childless : IsChildless live s) (low : s ≢ 0) where
  no_parent : (x : ℕ) → parent_of live x ≢ s
  no_parent x e = elim (parent_cases live x) [
    | inl h ↦ of_each (λ d. d.parent ≢ s) live h.child childless h.there (sym h.is ∙ e)
    | inr none ↦ low (sym e ∙ none.1)
  ]

  -- nothing else is below it
  none_above : (n x : ℕ) → x ≢ s → has (lineage n live x) s ≡ false
  unfolding lineage
  none_above zero x other = refl
  none_above (suc n) x other = rw (ne_eqb x s other) (none_above n (parent_of live x) (no_parent x))

  pub none_below : (x : ℕ) → x ≢ s → is_under live s x ≡ false
  unfolding is_under
  none_below x other = none_above (length live) x other

  same_parent : (x : ℕ) → x ≢ s → parent_of (without live s) x ≡ parent_of live x
  same_parent x other =
      ap (λ (o : Option Dev). option_map_or (λ d. d.parent) o 0)
      (find_filter (λ d. d.serial == x) (λ d. not (d.serial == s)) live
      ∙ find_same (λ d. not (d.serial == s) && d.serial == x) (λ d. d.serial == x) live (λ d. both (d.serial == s) (d.serial == x) (λ a b. other (sym (eqb-true d.serial x b) ∙ eqb-true d.serial s a))))
    where
      both : (a b : Bool) → (a ≡ true → b ≡ true → ⊥) → (not a && b) ≡ b
      both true true h = absurd (h refl refl)
      both true false h = refl
      both false b h = refl

  same_chain : (n x : ℕ) → x ≢ s → lineage n (without live s) x ≡ lineage n live x
  unfolding lineage
  same_chain zero x other = refl
  same_chain (suc n) x other = ap (λ (xs : List ℕ). x ∷ xs) (ap (lineage n (without live s)) (same_parent x other) ∙ same_chain n (parent_of live x) (no_parent x))

  pub live_without : (x : ℕ) → is_live live x ≡ true → x ≢ s → is_live (without live s) x ≡ true
  live_without x h other = any_passed (λ d. d.serial == x) (λ d. not (d.serial == s)) live (λ d k. ap not (ne_eqb d.serial s (λ e. other (sym (eqb-true d.serial x k) ∙ e)))) h

  -- what stands below another device still does
  pub under_without : (t x : ℕ) → is_live live t ≡ true → t ≢ s → x ≢ s → is_under live t x ≡ true → is_under (without live s) t x ≡ true
  unfolding is_under
  under_without t x is differs other below =
      let fewer : length (without live s) ≤ length live = omega (arith, length-filter_both (λ (d : Dev). not (d.serial == s)) (λ d. not (not (d.serial == s))) (λ d. refl) live) in
      sym (any_steps (without live s) t (length live) x (all_filter (λ d. d.parent < d.serial) (λ d. not (d.serial == s)) live up) (live_without t is differs) fewer)
      ∙ ap (λ (xs : List ℕ). has xs t) (same_chain (length live) x other) ∙ below

-- ---- the last one that the caller condemned

number_is : (o : Option ℕ) (k : ℕ) → is_number o k ≡ true → o ≡ Some k
number_is None k h = absurd cc
number_is (Some m) k h = ap (λ (x : ℕ). Some x) (eqb-true m k h)

pub is_numbered : (o : Option ℕ) (k : ℕ) → o ≡ Some k → is_number o k ≡ true
is_numbered o k e = rw e (eq-eqb k k refl)

frees_is : (a b : ℕ) → activity.Frees a ≡ activity.Frees b → a ≡ b
frees_is a b e = cc

-- the device that is freed: the caller condemned it, no reference names it, and each other one that the caller condemned came earlier
record IsFreeable (w : World) (k s : ℕ) (x : Dev) : Type 0 where
  there : Contains w.live x
  named : x.serial ≡ s
  condemned : x.condemned ≡ Some k
  earlier : AllByRecursion (λ d. d.condemned ≡ Some k → d.serial ≤ s) w.live
  unreferred : is_referred w s ≡ false

freeable : (w : World) (k s : ℕ) → Sound w → FreesLast w k s → (x : Dev) × IsFreeable w k s x
unfolding next_free
freeable w k s sound why = cases (find (λ d. is_number d.condemned k) (reverse w.live)) refl why.last
  where
    cases : (o : Option Dev) → find (λ d. is_number d.condemned k) (reverse w.live) ≡ o → option_map (λ d. d.serial) o ≡ Some s → (x : Dev) × IsFreeable w k s x
    cases None e h = absurd cc
    cases (Some x) e h =
        let last = last_found (λ d. is_number d.condemned k) (IsApart w.setup) w.live x sound.devices.apart e in
        let named : x.serial ≡ s = same_Some x.serial s h in (
          x,
          record {
            there = last.there;
            named = named;
            condemned = number_is x.condemned k last.passes;
            earlier = all_imp (λ d. is_number d.condemned k ≡ true → (d ≡ x) ⊎ IsApart w.setup d x) (λ d. d.condemned ≡ Some k → d.serial ≤ s)
                (λ d h c. elim (h (is_numbered d.condemned k c)) [ inl same ↦ omega (arith, ap (λ (y : Dev). y.serial) same, named) | inr apart ↦ omega (arith, apart.later, named) ]) w.live last.others;
            unreferred = why.free;
          },
        )

-- what the caller comes to: it goes on, or it is done, and then it condemned nothing else
record GoesOn (w : World) (k s target : ℕ) (c : Caller) : Type 0 where
  no_frames : c.stack ≡ []
  no_power : is_powering c.doing ≡ false
  no_transfer : (t : Ticket) → c.doing ≢ activity.Transfer t
  unended : c.doing ≢ activity.Ended
  target_left : (t : ℕ) → c.doing ≡ activity.Frees t → (t ≡ target) × (t ≢ s)
  more : (d : Dev) → Contains w.live d → d.serial ≢ s → d.condemned ≡ Some k → c.doing ≡ activity.Frees target

module _ (w : World) (k s : ℕ) (x : Dev) (sound : Sound w) (it : IsFreeable w k s x) where
  up : AreRising w.live
  up = rising w.setup w.live w.next sound.devices

  soundly : IsSoundlyCondemned w x k
  soundly = of_each (λ d. (j : ℕ) → d.condemned ≡ Some j → IsSoundlyCondemned w d j) w.live x sound.condemned it.there k it.condemned

  unpinned : is_pinned w s ≡ false
  unpinned = rw it.named at soundly.unpinned

  childless : IsChildless w.live s
  childless = each_of (λ d. d.parent ≢ s) w.live (λ d here same.
      let mine : d.condemned ≡ Some k = of_each (λ e. e.parent ≡ x.serial → e.condemned ≡ Some k) w.live d soundly.children here (same ∙ sym it.named) in
      let low : d.serial ≤ s = of_each (λ e. e.condemned ≡ Some k → e.serial ≤ s) w.live d it.earlier here mine in
      absurd (omega (arith, low, same, of_each (λ e. e.parent < e.serial) w.live d up here)))

  not_root : s ≢ 0
  not_root same = absurd (omega (arith, same, it.named, of_each (λ e. e.parent < e.serial) w.live x up it.there))

  -- where it is the target, the caller condemned nothing else
  alone : (target : ℕ) → (caller_at w k).doing ≡ activity.Frees target → target ≡ s → (d : Dev) → Contains w.live d → d.serial ≢ s → d.condemned ≢ Some k
  alone target busy is d here other mine =
      let old = of_each (λ e. (i : ℕ) → e.condemned ≡ Some i → IsSoundlyCondemned w e i) w.live d sound.condemned here k mine in
      let t = old.below_target.0 in
      let same : t ≡ target = frees_is t target (sym old.below_target.1 ∙ busy) in
      clash (is_under w.live t d.serial) old.below_target.2 (ap (λ (n : ℕ). is_under w.live n d.serial) (same ∙ is) ∙ none_below w.live s up childless not_root d.serial other)

  module _ (target : ℕ) (c : Caller) (at : IsLater w k) (busy : (caller_at w k).doing ≡ activity.Frees target) (new : GoesOn w k s target c) where
    abbrev later : World
    later = with_caller (freed w s) k c

    pins : (y : ℕ) → is_pinned later y ≡ is_pinned w y
    pins y = same_pins (freed w s) k c at.no_frames new.no_frames y ∙ pins_same (freed w s) w y refl refl

    -- another one stays live
    still_live : (y : ℕ) → is_live w.live y ≡ true → y ≢ s → is_live later.live y ≡ true
    still_live y h other = live_without w.live s up childless not_root y h other

    other_one : (d : Dev) → not (d.serial == s) ≡ true → d.serial ≢ s
    other_one d h = eqb-false d.serial s (not-true (d.serial == s) h)

    -- ---- the parts

    new_placed : (d : Dev) → Contains w.live d → IsPlaced w.live w.next d → IsPlaced later.live w.next d
    new_placed d here p = record {
      below_next = p.below_next;
      after_parent = p.after_parent;
      parent_live = elim (or_cases (d.parent == 0) (is_live w.live d.parent) p.parent_live) [
        | inl root ↦ or_left (d.parent == 0) (is_live later.live d.parent) root
        | inr lives ↦ or_right (d.parent == 0) (is_live later.live d.parent) (still_live d.parent lives (of_each (λ e. e.parent ≢ s) w.live d childless here))
      ];
    }

    new_devices : HasSoundDevices w.setup later.live w.next
    new_devices = record {
      placed = all_filter (IsPlaced later.live w.next) (λ d. not (d.serial == s)) w.live (each_of _ w.live (λ d here. new_placed d here (of_each (IsPlaced w.live w.next) w.live d sound.devices.placed here)));
      apart = later_passed (IsApart w.setup) (λ d. not (d.serial == s)) w.live sound.devices.apart;
    }

    new_refs : HasSoundRefs later.live w.refs w.sole
    new_refs = record {
      live_ones = all_both (λ (r : Ref). IsTrue (is_live w.live r.serial)) (λ r. (r.serial == s) ≡ false) (λ r. IsTrue (is_live later.live r.serial))
          (λ r h off. still_live r.serial h (eqb-false r.serial s off)) w.refs sound.refs.live_ones (none_of (λ (r : Ref). r.serial == s) w.refs it.unreferred);
      counted = sound.refs.counted;
    }

    -- the target of a caller is this device only where the caller is this one, and done
    target_other : (j t : ℕ) → (caller_at w j).doing ≡ activity.Frees t → j ≢ k → t ≢ s
    target_other j t e other same =
        let theirs : x.condemned ≡ Some j = of_each (λ d. d.serial ≡ t → d.condemned ≡ Some j) w.live x ((sound.callers j).target t e).0 it.there (it.named ∙ sym same) in
        other (same_Some j k (sym theirs ∙ it.condemned))

    -- a caller that has more to free goes on
    still_frees : (d : Dev) → Contains w.live d → d.serial ≢ s → (j t : ℕ) → d.condemned ≡ Some j → (caller_at w j).doing ≡ activity.Frees t → (caller_at later j).doing ≡ activity.Frees t
    still_frees d here other j t mine e = caller_each (λ a. a.doing ≡ activity.Frees t) (freed w s) k j c at.there
        (λ same. let goes : c.doing ≡ activity.Frees target = new.more d here other (rw same at mine) in
        goes ∙ sym busy ∙ rw same at e)
        (λ differs. e)

    below_other : (d : Dev) → d.serial ≢ s → (t : ℕ) → is_under w.live t d.serial ≡ true → t ≢ s
    below_other d other t below same = clash (is_under w.live s d.serial) (ap (λ (n : ℕ). is_under w.live n d.serial) (sym same) ∙ below) (none_below w.live s up childless not_root d.serial other)

    new_condemned : (d : Dev) → Contains w.live d → d.serial ≢ s → (j : ℕ) → d.condemned ≡ Some j → IsSoundlyCondemned later d j
    new_condemned d here other j mine =
        let old = of_each (λ e. (i : ℕ) → e.condemned ≡ Some i → IsSoundlyCondemned w e i) w.live d sound.condemned here j mine in
        let t = old.below_target.0 in
        record {
          unpinned = pins d.serial ∙ old.unpinned;
          children = all_filter (λ e. e.parent ≡ d.serial → e.condemned ≡ Some j) (λ e. not (e.serial == s)) w.live old.children;
          below_target = (
            t,
            still_frees d here other j t mine old.below_target.1,
            under_without w.live s up childless not_root t d.serial ((sound.callers j).target t old.below_target.1).1 (below_other d other t old.below_target.2) other old.below_target.2,
          );
        }

    new_asleep : (d : Dev) → Contains w.live d → IsTrue d.asleep → IsSoundlyAsleep later d
    new_asleep d here sleeps =
        let old = of_each (λ e. IsTrue e.asleep → IsSoundlyAsleep w e) w.live d sound.asleep here sleeps in
        record { unpinned = pins d.serial ∙ old.unpinned; children = all_filter (λ e. e.parent ≡ d.serial → IsTrue e.asleep) (λ e. not (e.serial == s)) w.live old.children }

    still_known : (y : ℕ) → is_known w y ≡ true → (y == s) ≡ false → is_known later y ≡ true
    still_known y h other = elim (or_cases (y == 0) (is_live w.live y) h) [
      | inl root ↦ or_left (y == 0) (is_live later.live y) root
      | inr lives ↦ or_right (y == 0) (is_live later.live y) (still_live y lives (eqb-false y s other))
    ]

    -- no frame and no entry is of the device
    apart_from : (AllByRecursion (λ (b : Caller). list_any (λ f. frame_serial f == s) b.stack ≡ false) w.callers) × (AllByRecursion (λ (e : Deferred). (e.child == s) ≡ false) w.deferred)
    unfolding is_pinned
    apart_from =
        let parts = or_false (list_any (λ (b : Caller). list_any (λ f. frame_serial f == s) b.stack) w.callers) (list_any (λ (e : Deferred). e.child == s) w.deferred) unpinned in
        (none_of (λ (b : Caller). list_any (λ f. frame_serial f == s) b.stack) w.callers parts.0, none_of (λ (e : Deferred). e.child == s) w.deferred parts.1)

    new_frames : AllByRecursion (λ b. AllByRecursion (λ f. IsTrue (is_known later (frame_serial f))) b.stack) w.callers
    new_frames = all_both (λ (b : Caller). list_any (λ f. frame_serial f == s) b.stack ≡ false) (λ b. AllByRecursion (λ f. IsTrue (is_known w (frame_serial f))) b.stack)
        (λ b. AllByRecursion (λ f. IsTrue (is_known later (frame_serial f))) b.stack)
        (λ b off known. all_both (λ (f : Frame). IsTrue (is_known w (frame_serial f))) (λ f. (frame_serial f == s) ≡ false) (λ f. IsTrue (is_known later (frame_serial f)))
        (λ f h other. still_known (frame_serial f) h other) b.stack known (none_of (λ (f : Frame). frame_serial f == s) b.stack off)) w.callers apart_from.0 sound.frames

    new_target : (j t : ℕ) → IsFreed w j t → t ≢ s → IsFreed later j t
    new_target j t old other = (all_filter (λ d. d.serial ≡ t → d.condemned ≡ Some j) (λ d. not (d.serial == s)) w.live old.0, still_live t old.1 other)

    sound_freed : Sound later
    sound_freed =
        let u : World = freed w s in
        record {
          devices = new_devices;
          refs = new_refs;
          condemned = each_passed (λ d. (j : ℕ) → d.condemned ≡ Some j → IsSoundlyCondemned later d j) (λ d. not (d.serial == s)) w.live (each_of _ w.live (λ d here on. new_condemned d here (other_one d on)));
          asleep = all_filter (λ d. IsTrue d.asleep → IsSoundlyAsleep later d) (λ d. not (d.serial == s)) w.live (each_of _ w.live new_asleep);
          frames = all_set (λ b. AllByRecursion (λ f. IsTrue (is_known later (frame_serial f))) b.stack) w.callers k c new_frames (rw new.no_frames tt);
          deferred = deferred_live later w (same_scans u k c at.no_frames new.no_frames) w.deferred
              (all_both (IsSoundlyDeferred w) (λ e. (e.child == s) ≡ false) (λ e. is_live later.live e.child ≡ true) (λ e h off. still_live e.child h.0 (eqb-false e.child s off)) w.deferred sound.deferred apart_from.1) sound.deferred;
          callers = λ j. record {
            turn = caller_each (λ b. IsTrue (is_number w.power_owner j) ↔ IsTrue (is_powering b.doing)) u k j c at.there
                (λ same. rw same (λ h. clash (is_number w.power_owner k) h (no_turn w k sound (rw busy refl)), λ h. clash (is_powering c.doing) h new.no_power)) (λ other. (sound.callers j).turn);
            transfer = caller_each (λ b. (t : Ticket) → b.doing ≡ activity.Transfer t → is_held w j t.serial ≡ true) u k j c at.there (λ same t e. absurd (new.no_transfer t e)) (λ other. (sound.callers j).transfer);
            ended = caller_each (λ b. b.doing ≡ activity.Ended → (b.stack ≡ []) × AllByRecursion (λ r. r.caller ≢ j) w.refs) u k j c at.there (λ same e. absurd (new.unended e)) (λ other. (sound.callers j).ended);
            frames = caller_each (λ b. IsTrue (not (j == 0)) → b.stack ≢ [] → b.doing ≡ activity.Scans) u k j c at.there (λ same z some. absurd (some new.no_frames)) (λ other. (sound.callers j).frames);
            target = caller_each (λ b. (t : ℕ) → b.doing ≡ activity.Frees t → IsFreed later j t) u k j c at.there
                (λ same t e. let left = new.target_left t e in rw same (new_target k t ((sound.callers k).target t (busy ∙ ap (λ (n : ℕ). activity.Frees n) (sym left.0))) left.1))
                (λ other t e. new_target j t ((sound.callers j).target t e) (target_other j t e other));
          };
          interrupts_on = sound.interrupts_on;
          boot = λ goes. absurd (goes (boots_not u k c at.later at.booted));
        }

-- ---- the deed

-- the target goes last, and with it the command is over
done_freeing : (w : World) (k s target : ℕ) (x : Dev) (sound : Sound w) (it : IsFreeable w k s x) → IsLater w k → (caller_at w k).doing ≡ activity.Frees target → target ≡ s → Sound (over (freed w s) k)
done_freeing w k s target x sound it at busy is =
    sound_freed w k s x sound it target (record { over = (caller_at w k).over + 1; doing = activity.Idle; stack = (caller_at w k).stack }) at busy (record {
      no_frames = at.no_frames;
      no_power = refl;
      no_transfer = λ t e. cc;
      unended = λ e. cc;
      target_left = λ t e. absurd cc;
      more = λ d here other mine. absurd (alone w k s x sound it target busy is d here other mine);
    })

goes_on_freeing : (w : World) (k s target : ℕ) (x : Dev) (sound : Sound w) (it : IsFreeable w k s x) → IsLater w k → (caller_at w k).doing ≡ activity.Frees target → target ≢ s → Sound (freed w s)
goes_on_freeing w k s target x sound it at busy other =
    let still : with_caller (freed w s) k (caller_at w k) ≡ freed w s = ap (λ (cs : List Caller). record (freed w s) { callers = cs }) (set-get_or w.callers k nobody) in
    subst Sound still (sound_freed w k s x sound it target (caller_at w k) at busy (record {
      no_frames = at.no_frames;
      no_power = rw busy refl;
      no_transfer = λ t e. cc;
      unended = λ e. cc;
      target_left = λ t e. let is : t ≡ target = frees_is t target (sym e ∙ busy) in (is, λ same. other (sym is ∙ same));
      more = λ d here differs mine. busy;
    }))

pub sound_free : (w : World) (k s : ℕ) → Kept w → next w k ≡ Does (Free s) → Sound (after w k (Free s))
unfolding after
sound_free w k s kept chosen =
    let why : FreesLast w k s = has_command_reason w k (Free s) chosen in
    let busy : (caller_at w k).doing ≡ activity.Frees why.target = why.amid in
    let later : k ≢ 0 = amid_later w k kept.ranges (λ e. cc) (λ e. cc) in
    let at : IsLater w k = later_one w k (Free s) chosen later (amid_no_frames w k kept.sound later (λ e. cc)) in
    let one = freeable w k s kept.sound why in
    cond_both (freeing_target (caller_at w k).doing s) (over (freed w s) k) (freed w s) Sound
    (λ e. done_freeing w k s why.target one.0 kept.sound one.1 at busy (eqb-true why.target s (rw busy at e)))
    (λ e. goes_on_freeing w k s why.target one.0 kept.sound one.1 at busy (eqb-false why.target s (rw busy at e)))
