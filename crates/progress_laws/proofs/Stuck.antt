-- A world in which nobody does anything: the boot is over, no frame is left, and each wait is for a device that another waiting caller holds.
use Rattle.std.proofs.Common.{◌≡◌, ◌≢◌, ◌⊎◌, ℕ, zero, suc, ◌==◌, ◌&&◌, ◌||◌, Bool, true, false, cond, List, [], ◌∷◌, find, reverse, option_map, Option, Some, None, refl, sym, ap, ◌∙◌, subst, inl, inr, eqb-true, eq-eqb, slice_index_or, arith}
use Rattle.std.proofs.lemmas.Bool.{ne_eqb}
use Rattle.std.proofs.lemmas.List.{reverse-append}
use Rattle.std.proofs.lemmas.List.Folds.{find-append}
use Rattle.std.proofs.lemmas.Option.{same_Some}
use Rattle.std.specs.Prelude.{⊤}
use Rattle.std.specs.List.{AllByRecursion, Contains, list_any}
use Rattle.std.specs.Option.{option_map_or, option_or}
use Rattle.config_rules.proofs.Parts.{cond_both}
use Rattle.run_rules.specs.declared.world.Deferred.{Deferred}
use Rattle.run_rules.specs.declared.world.Dev.{Dev}
use Rattle.run_rules.specs.declared.world.Frame.{Frame}
use Rattle.run_rules.specs.declared.world.Key.{Key}
use Rattle.run_rules.specs.declared.world.Key.TheVariants as key
use Rattle.run_rules.specs.declared.world.Ref.{Ref}
use Rattle.run_rules.specs.declared.world.Wait.{Wait}
use Rattle.run_rules.specs.declared.world.Wait.TheVariants as wait
use Rattle.run_rules.specs.declared.world.Activity.{Activity}
use Rattle.run_rules.specs.declared.world.Activity.TheVariants as activity
use Rattle.run_rules.specs.declared.deed.Deed.{Deed}
use Rattle.run_rules.specs.declared.deed.Choice.{Choice}
use Rattle.run_rules.specs.declared.deed.Choice.TheVariants.{Ended, Waits, Does}
use Rattle.run_rules.specs.World.{World, Caller, caller_at, has_ended, holds_in, is_held, is_number, is_pinned, is_referred, nobody, refers_to}
use Rattle.run_rules.specs.Next.{by_activity, command_of, first_held, freeing, next, next_command, next_free, on_top, other_turn}
use Rattle.run_rules.specs.Next as rules
use Rattle.run_rules.specs.Sound.{IsFreed, IsSoundlyCondemned, IsSoundlyDeferred, is_powering, is_scan_of}
use Rattle.run_rules.proofs.Devices.{none_of}
use Rattle.run_rules.proofs.Free.{find_true}
use Rattle.run_sound.specs.InFull.{IsUnheld, KeptInFull}
use Rattle.run_sound.proofs.Callers.{clash, is_ended_so, later_test, stack_pins, unended_so}
use Rattle.run_sound.proofs.Freeing.{is_numbered}
use Rattle.run_sound.proofs.Members.{found_from_end, live_contained, of_each}
use Rattle.run_sound.proofs.Reasons.{option_both}
use Rattle.progress_laws.specs.Ring.{IsHeldUp}
use Rattle.progress_laws.specs.Still.{NobodyDoes}
use Rattle.progress_laws.proofs.Waits.{Acts, Why, boot_acts, next_is, power_acts, top_acts, why_waits}

-- ---- lists

-- where no caller has a frame, no frame passes
no_frame : (q : Caller → Bool) (cs : List Caller) → ((c : Caller) → c.stack ≡ [] → q c ≡ false) → ((k : ℕ) → (slice_index_or cs k nobody).stack ≡ []) → list_any q cs ≡ false
no_frame q [] off none = refl
no_frame q (c ∷ cs) off none = rw (off c (none 0), no_frame q cs off (λ k. none (suc k))) refl

none_last : (p : Dev → Bool) (xs : List Dev) → find p (reverse xs) ≡ None → list_any p xs ≡ false
none_last p [] e = refl
none_last p (x ∷ xs) e =
    cases (find p (reverse xs)) (none_last p xs) (p x) (sym (ap (λ (ys : List Dev). find p ys) (reverse-append (x ∷ []) xs) ∙ find-append p (reverse xs) (x ∷ [])) ∙ e)
  where
    cases : (o : Option Dev) → (o ≡ None → list_any p xs ≡ false) → (b : Bool) → option_or o (cond b (Some x) None) ≡ None → (b || list_any p xs) ≡ false
    cases None rest true h = absurd cc
    cases None rest false h = rest refl
    cases (Some y) rest b h = absurd cc

-- who refers to the device
holder_of : (refs : List Ref) (s : ℕ) → refers_to refs s ≡ true → (j : ℕ) × (holds_in refs j s ≡ true)
holder_of [] s h = absurd cc
holder_of (r ∷ rs) s h = cases (λ more. holder_of rs s more) (r.serial == s) refl h
  where
    cases : (refers_to rs s ≡ true → (j : ℕ) × (holds_in rs j s ≡ true)) → (b : Bool) → (r.serial == s) ≡ b → (b || refers_to rs s) ≡ true → (j : ℕ) × (holds_in (r ∷ rs) j s ≡ true)
    cases later true e k = (r.caller, rw (e, eq-eqb r.caller r.caller refl) refl)
    cases later false e k = let rest = later k in (rest.0, rw (e, rest.1) refl)

-- who has no reference holds nothing
holds_none : (refs : List Ref) (j s : ℕ) → AllByRecursion (λ r. r.caller ≢ j) refs → holds_in refs j s ≡ false
holds_none [] j s h = refl
holds_none (r ∷ rs) j s h = rw (ne_eqb r.caller j h.0, holds_none rs j s h.1) (off (r.serial == s))
  where
    off : (b : Bool) → (b && false || false) ≡ false
    off true = refl
    off false = refl

-- ---- what is freed next

-- the caller condemned it
freed_next : (w : World) (k s : ℕ) → next_free w.live k ≡ Some s → (d : Dev) × Contains w.live d × (d.serial ≡ s) × (d.condemned ≡ Some k)
unfolding next_free
freed_next w k s e = cases (find (λ d. is_number d.condemned k) (reverse w.live)) refl e
  where
    number_is : (o : Option ℕ) → is_number o k ≡ true → o ≡ Some k
    number_is None h = absurd cc
    number_is (Some m) h = ap (λ (x : ℕ). Some x) (eqb-true m k h)

    cases : (o : Option Dev) → find (λ d. is_number d.condemned k) (reverse w.live) ≡ o → option_map (λ d. d.serial) o ≡ Some s → (d : Dev) × Contains w.live d × (d.serial ≡ s) × (d.condemned ≡ Some k)
    cases None f h = absurd cc
    cases (Some d) f h = (d, found_from_end (λ x. is_number x.condemned k) w.live d f, same_Some d.serial s h, number_is d.condemned (find_true (λ x. is_number x.condemned k) (reverse w.live) d f))

abbrev pub Goes : Choice → Type 0
Goes Ended = ⊥
Goes _ = ⊤

of_acts : (c : Choice) → Acts c → Goes c
of_acts c h = subst Goes (sym h.1) tt

command_goes : (w : World) (k : ℕ) → Goes (next_command w k)
unfolding next_command
command_goes w k =
    option_both Goes _ (command_of w k) _ (λ c e. option_both Goes _ (cond (rules.is_power c) (other_turn w.power_owner k) None) _ (λ j t. tt) (λ t. tt))
    (λ e. option_both Goes _ (first_held w k) _ (λ d h. tt) (λ h. tt))

top_goes : (w : World) (k : ℕ) (fs : List Frame) → Goes (on_top w k fs)
top_goes w k [] = cond_both Goes (k == 0) _ _ (λ z. of_acts _ (boot_acts w)) (λ z. command_goes w k)
top_goes w k (f ∷ fs) = of_acts _ (top_acts w k f fs)

-- who frees has something to free
frees_some : (w : World) (k t : ℕ) → IsFreed w k t → Goes (freeing w k)
unfolding freeing next_free
frees_some w k t at = cases (find (λ d. is_number d.condemned k) (reverse w.live)) refl
  where
    pick : (b : Bool) (s : ℕ) → Goes (cond b (Waits (wait.Refs s)) (Does (Deed.Free s)))
    pick true s = tt
    pick false s = tt

    cases : (o : Option Dev) → find (λ d. is_number d.condemned k) (reverse w.live) ≡ o
        → Goes (option_map_or (λ s. cond (is_referred w s) (Waits (wait.Refs s)) (Does (Deed.Free s))) (option_map (λ d. d.serial) o) Ended)
    cases (Some d) e = pick (is_referred w d.serial) d.serial
    cases None e =
        let one = live_contained w.live t at.1 in
        let mine : one.0.condemned ≡ Some k = of_each (λ d. d.serial ≡ t → d.condemned ≡ Some k) w.live one.0 at.0 one.1 one.2 in
        let none = none_of (λ (d : Dev). is_number d.condemned k) w.live (none_last (λ d. is_number d.condemned k) w.live e) in
        clash (is_number one.0.condemned k) (is_numbered one.0.condemned k mine) (of_each (λ d. is_number d.condemned k ≡ false) w.live one.0 none one.1)

-- ---- a world in which nobody does anything

module _ (w : World) (at : KeptInFull w) (stuck : NobodyDoes w) where
  never : {A : Type 0} (k : ℕ) (c : Choice) → next w k ≡ c → Acts c → A
  never k c is h = absurd (stuck k h.0 (is ∙ h.1))

  -- caller 0 waits for nothing
  pub boot_over : has_ended w 0 ≡ true
  boot_over = cases (has_ended w 0) refl
    where
      by_stack : (fs : List Frame) → Acts (on_top w 0 fs)
      by_stack [] = boot_acts w
      by_stack (f ∷ fs) = top_acts w 0 f fs

      idle : has_ended w 0 ≡ false → (caller_at w 0).doing ≡ activity.Idle → has_ended w 0 ≡ true
      idle goes is = never 0 (on_top w 0 (caller_at w 0).stack) (next_is w 0 goes (λ later. absurd (later refl)) ∙ ap (by_activity w 0) is) (by_stack (caller_at w 0).stack)

      cases : (b : Bool) → has_ended w 0 ≡ b → has_ended w 0 ≡ true
      cases true e = e
      cases false e = elim at.kept.ranges.callers.booting [ inl is ↦ idle e is | inr is ↦ rw is refl ]

  boot_ended : (caller_at w 0).doing ≡ activity.Ended
  boot_ended = is_ended_so (caller_at w 0).doing boot_over

  -- who has a frame goes on
  no_frames : (k : ℕ) → (caller_at w k).stack ≡ []
  no_frames zero = ((at.kept.sound.callers 0).ended boot_ended).0
  no_frames (suc k) = cases (caller_at w (suc k)).stack refl
    where
      cases : (fs : List Frame) → (caller_at w (suc k)).stack ≡ fs → fs ≡ []
      cases [] e = refl
      cases (f ∷ fs) e =
          let scans : (caller_at w (suc k)).doing ≡ activity.Scans = (at.kept.sound.callers (suc k)).frames (later_test (suc k) (λ same. omega (arith, same))) (λ none. absurd cc) in
          never (suc k) (on_top w (suc k) (caller_at w (suc k)).stack) (next_is w (suc k) (rw scans refl) (λ later. boot_over) ∙ ap (by_activity w (suc k)) scans)
          (subst (λ (gs : List Frame). Acts (on_top w (suc k) gs)) (sym e) (top_acts w (suc k) f fs))

  -- and then no scan is put off
  no_deferred : w.deferred ≡ []
  no_deferred = cases w.deferred at.kept.sound.deferred (at.kept.sound.interrupts_on (at.interrupts boot_over))
    where
      entry : (which : Key) (s : ℕ) → IsSoundlyDeferred w (record { key = which; child = s }) → which ≢ key.Interrupts → ⊥
      entry key.Interrupts s h other = other refl
      entry (key.Parent p) s h other =
          clash (list_any (λ (c : Caller). list_any (is_scan_of p) c.stack) w.callers) h.1
          (no_frame (λ c. list_any (is_scan_of p) c.stack) w.callers (λ c none. rw none refl) no_frames)

      cases : (es : List Deferred) → AllByRecursion (IsSoundlyDeferred w) es → AllByRecursion (λ e. e.key ≢ key.Interrupts) es → es ≡ []
      cases [] h other = refl
      cases (e ∷ es) h other = absurd (entry e.key e.child h.0 other.0)

  unpinned : (s : ℕ) → is_pinned w s ≡ false
  unfolding is_pinned
  unpinned s = rw (no_frame (stack_pins s) w.callers (λ c none. rw none refl) no_frames, no_deferred) refl

  -- nobody has the power turn
  no_turn : (j : ℕ) → w.power_owner ≢ Some j
  no_turn j owner = cases (caller_at w j).doing refl ((at.kept.sound.callers j).turn.0 (rw owner (eq-eqb j j refl)))
    where
      cases : (a : Activity) → (caller_at w j).doing ≡ a → is_powering a ≡ true → ⊥
      cases (activity.Power what target) e h =
          never j (by_activity w j (activity.Power what target)) (next_is w j (rw e refl) (λ later. boot_over) ∙ ap (by_activity w j) e) (power_acts w j what target unpinned)
      cases activity.Idle e h = absurd cc
      cases activity.Ended e h = absurd cc
      cases activity.Scans e h = absurd cc
      cases (activity.Transfer t) e h = absurd cc
      cases (activity.Frees s) e h = absurd cc

  turn_none : (k j : ℕ) → other_turn w.power_owner k ≡ Some j → ⊥
  turn_none k j h = cases w.power_owner refl h
    where
      cases : (o : Option ℕ) → w.power_owner ≡ o → other_turn o k ≡ Some j → ⊥
      cases None e f = absurd cc
      cases (Some i) e f = no_turn i e

  -- so each wait is for a device that is held
  for_device : (k : ℕ) (x : Wait) → next w k ≡ Waits x → (s : ℕ) × (x ≡ wait.Refs s) × (next_free w.live k ≡ Some s) × (is_referred w s ≡ true)
  for_device k x e = cases x (why_waits w k x e)
    where
      cases : (y : Wait) → Why w k y → (s : ℕ) × (y ≡ wait.Refs s) × (next_free w.live k ≡ Some s) × (is_referred w s ≡ true)
      cases wait.Boot h = clash (has_ended w 0) boot_over h
      cases (wait.Power j) h = absurd (turn_none k j h)
      cases (wait.Refs s) h = (s, refl, h.0, h.1)
      cases (wait.Scan s) h = clash (is_pinned w s) h (unpinned s)
      cases (wait.Leases s mask) h = absurd h

  -- who holds a device has not ended
  pub holder_goes : (j s : ℕ) → is_held w j s ≡ true → has_ended w j ≡ false
  holder_goes j s h = unended_so w j (λ e. clash (is_held w j s) h (holds_none w.refs j s ((at.kept.sound.callers j).ended e).1))

  -- and so it waits
  goes_on : (j : ℕ) → has_ended w j ≡ false → Goes (next w j)
  goes_on j goes = subst Goes (sym (next_is w j goes (λ later. boot_over))) (cases (caller_at w j).doing refl)
    where
      cases : (a : Activity) → (caller_at w j).doing ≡ a → Goes (by_activity w j a)
      cases activity.Ended e = clash (has_ended w j) (rw e refl) goes
      cases (activity.Transfer t) e = tt
      cases (activity.Frees t) e = frees_some w j t ((at.kept.sound.callers j).target t e)
      cases (activity.Power what target) e = of_acts _ (power_acts w j what target unpinned)
      cases activity.Scans e = top_goes w j (caller_at w j).stack
      cases activity.Idle e = top_goes w j (caller_at w j).stack

  -- who has not ended waits for a device that it condemned, and so it frees
  pub waits_for_one : (k : ℕ) (why : Wait) → next w k ≡ Waits why → IsHeldUp w k
  waits_for_one k why e =
      let wait_is = for_device k why e in
      let holder = holder_of w.refs wait_is.0 wait_is.3 in
      let one = freed_next w k wait_is.0 wait_is.2 in
      let old = of_each (λ d. (j : ℕ) → d.condemned ≡ Some j → IsSoundlyCondemned w d j) w.live one.0 at.kept.sound.condemned one.1 k one.3 in
      let next_one = waiting holder.0 (next w holder.0) refl (goes_on holder.0 (holder_goes holder.0 wait_is.0 holder.1)) in
      record {
        target = old.below_target.0;
        frees = old.below_target.1;
        holder = holder.0;
        other = own wait_is.0 one holder.0 holder.1;
        waits = record { device = wait_is.0; waits = e ∙ ap (λ (x : Wait). Waits x) wait_is.1; held = holder.1 };
        device = next_one.0;
        holder_waits = next_one.1;
      }
    where
      own : (s : ℕ) (one : (d : Dev) × Contains w.live d × (d.serial ≡ s) × (d.condemned ≡ Some k)) (j : ℕ) → is_held w j s ≡ true → j ≢ k
      own s one j held same =
          let free : is_held w k one.0.serial ≡ false = of_each (IsUnheld w) w.live one.0 at.unheld one.1 k one.3 in
          clash (is_held w j s) held (ap (λ (i : ℕ). is_held w i s) same ∙ ap (is_held w k) (sym one.2) ∙ free)

      waiting : (j : ℕ) (c : Choice) → next w j ≡ c → Goes c → (t : ℕ) × (next w j ≡ Waits (wait.Refs t))
      waiting j Ended e h = absurd h
      waiting j (Does d) e h = absurd (stuck j d e)
      waiting j (Waits x) e h = let it = for_device j x e in (it.0, e ∙ ap (λ (y : Wait). Waits y) it.1)

  pub held_up : (k : ℕ) → (has_ended w k ≡ true) ⊎ IsHeldUp w k
  held_up k = ends (has_ended w k) refl
    where
      by_choice : (c : Choice) → next w k ≡ c → Goes c → IsHeldUp w k
      by_choice Ended e h = absurd h
      by_choice (Does d) e h = absurd (stuck k d e)
      by_choice (Waits why) e h = waits_for_one k why e

      ends : (b : Bool) → has_ended w k ≡ b → (has_ended w k ≡ true) ⊎ IsHeldUp w k
      ends true e = inl e
      ends false e = inr (by_choice (next w k) refl (goes_on k e))
