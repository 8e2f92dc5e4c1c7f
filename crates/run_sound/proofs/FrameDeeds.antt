-- The deeds of frames, of the boot and of a caller's end keep the world sound.
use Rattle.std.proofs.Common.{◌≡◌, ◌≢◌, ◌⊎◌, ℕ, ◌+◌, Bool, true, false, not, ◌&&◌, ◌||◌, ◌==◌, cond, find, inl, inr, List, [], ◌∷◌, ◌++◌, map, Option, Some, None, refl, sym, ap, ◌∙◌, subst, eqb-true, eq-eqb}
use Rattle.std.proofs.lemmas.Bool.{or_cases, or_left, or_right}
use Rattle.std.specs.Prelude.{IsTrue, filter}
use Rattle.std.specs.List.{AllByRecursion, Contains, list_any}
use Rattle.std.proofs.lemmas.List.Folds.{list_any-append}
use Rattle.run_rules.specs.declared.world.Dev.{Dev}
use Rattle.run_rules.specs.declared.world.Frame.{Frame}
use Rattle.run_rules.specs.declared.world.Frame.TheVariants.{Scan, Finaliser}
use Rattle.run_rules.specs.declared.world.Position.{Position}
use Rattle.run_rules.specs.declared.world.Wanted.{Wanted}
use Rattle.run_rules.specs.declared.world.Deferred.{Deferred}
use Rattle.run_rules.specs.declared.world.Key.{Key}
use Rattle.run_rules.specs.declared.world.Key.TheVariants as key
use Rattle.run_rules.specs.declared.world.Arrival.{Arrival}
use Rattle.run_rules.specs.declared.world.Activity.{Activity}
use Rattle.run_rules.specs.declared.world.Activity.TheVariants as activity
use Rattle.run_rules.specs.declared.world.Ref.{Ref}
use Rattle.run_rules.specs.World.{World, Caller, caller_at, frame_serial, has_ended, is_ended, is_held, is_live, is_pinned, scan_of}
use Rattle.run_rules.specs.declared.deed.Deed.{Deed}
use Rattle.run_rules.specs.declared.deed.Deed.TheVariants.{Search, EndScan, BeginInterrupts, Finalise, EndCaller, Rescan}
use Rattle.run_rules.specs.declared.deed.Choice.TheVariants.{Does}
use Rattle.run_rules.specs.Next.{first_held, next}
use Rattle.run_rules.specs.After.{after, arrived, doing, finaliser_done, list_moved, moved_top, released, same_key, show_spot, under_top, with_caller, with_stack, rescan_frame}
use Rattle.run_rules.specs.Sound.{IsSoundlyDeferred, Sound, is_known, is_scan_of}
use Rattle.run_rules.proofs.Devices.{all_imp, none_of}
use Rattle.run_sound.proofs.Coming.{IsCall, IsCalled, IsEnd, IsOver, IsPhase, IsScanEnd, IsTurn, MayCome}
use Rattle.run_sound.specs.Kept.{Kept, MayRun}
use Rattle.run_sound.proofs.Arrivals.{finalise_comes, live_is_known, none_shown, search_comes}
use Rattle.run_sound.proofs.Attached.{IsScanner, StaysSound, attached_stays, boot_spared, first_goes, old_known, pinned_spared, scanner_set, sound_pushed}
use Rattle.run_sound.proofs.Callers.{all_append, all_filter, all_passing, any_set_here, caller_here, callers_kept, clash, doing_so, entries_pin, pinned_by_entry, pinned_by_frame, not_ended, later_test}
use Rattle.run_sound.proofs.Members.{not_condemned, each_of, live_contained, of_each, one_serial}
use Rattle.run_sound.proofs.Commands.{IsBetween, SearchesAgain}
use Rattle.run_sound.proofs.Reasons.{has_command_reason, has_reason, is_quiet, quiet_end, quiet_rests}
use Rattle.run_sound.proofs.Plain.{is_scanned}
use Rattle.run_sound.proofs.Restacks.{IsSpared, MayBe, sound_restacked}
use Rattle.run_sound.proofs.Stacks.{IsDoer, MayStack, doer, pins_of, same_put_off, settles, sound_beside, sound_stack, stacked}

-- ---- who does a deed of a frame

full : {A : Type 0} (x : A) (xs : List A) → x ∷ xs ≢ []
full x xs e = cc

-- with a frame on top a caller scans, if it does not boot
topped_scanner : (w : World) (k : ℕ) (d : Deed) (f : Frame) (rest : List Frame) → Sound w → next w k ≡ Does d → (caller_at w k).stack ≡ f ∷ rest → IsScanner w k
topped_scanner w k d f rest sound e stack = record { doer = doer w k d e; scans = λ later. (sound.callers k).frames (later_test k later) (λ none. full f rest (sym stack ∙ none)) }

boot_scanner : (w : World) (k : ℕ) (d : Deed) → next w k ≡ Does d → k ≡ 0 → IsScanner w k
boot_scanner w k d e boots = record { doer = doer w k d e; scans = λ later. absurd (later boots) }

-- ---- a frame moves or goes

-- fewer frames, of known devices, with the scans that they had
sound_less : (w : World) (k : ℕ) (stack : List Frame) → Sound w → IsScanner w k → AllByRecursion (λ f. IsTrue (is_known w (frame_serial f))) stack
    → ((s : ℕ) → pins_of stack s ≡ true → pins_of (caller_at w k).stack s ≡ true)
    → ((p : ℕ) → list_any (is_scan_of p) (caller_at w k).stack ≡ true → list_any (is_scan_of p) stack ≡ true) → Sound (with_stack w k stack)
sound_less w k stack sound who known pins scans = sound_stack w k stack w.deferred w.interrupts_on sound who.doer may sound.interrupts_on
  where
    may : MayStack w k stack w.deferred
    may = record {
      known = known;
      scans = λ later some. who.scans later;
      frame_pins = λ s h. inl (pinned_by_frame w k s (pins s h));
      entry_pins = λ s h. inl (pinned_by_entry w s h);
      put_off = sound.deferred;
      keeps = each_of (λ e. (p : ℕ) → e.key ≡ key.Parent p → list_any (is_scan_of p) (caller_at w k).stack ≡ true → list_any (is_scan_of p) stack ≡ true) w.deferred (λ e here p is. scans p);
    }

moved_known : (w : World) (to : Position) (stack : List Frame) → AllByRecursion (λ f. IsTrue (is_known w (frame_serial f))) stack → AllByRecursion (λ f. IsTrue (is_known w (frame_serial f))) (moved_top to stack)
moved_known w to [] h = tt
moved_known w to (Scan s only wanted from ∷ fs) h = h
moved_known w to (Finaliser s ∷ fs) h = h

moved_pins : (to : Position) (stack : List Frame) (s : ℕ) → pins_of (moved_top to stack) s ≡ pins_of stack s
moved_pins to [] x = refl
moved_pins to (Scan s only wanted from ∷ fs) x = refl
moved_pins to (Finaliser s ∷ fs) x = refl

moved_scans : (to : Position) (stack : List Frame) (p : ℕ) → list_any (is_scan_of p) (moved_top to stack) ≡ list_any (is_scan_of p) stack
moved_scans to [] p = refl
moved_scans to (Scan s only wanted from ∷ fs) p = refl
moved_scans to (Finaliser s ∷ fs) p = refl

sound_moved : (w : World) (k : ℕ) (to : Position) → Sound w → IsScanner w k → Sound (with_stack w k (moved_top to (caller_at w k).stack))
sound_moved w k to sound who =
    sound_less w k (moved_top to (caller_at w k).stack) sound who (moved_known w to (caller_at w k).stack (old_known w k sound))
    (λ s h. sym (moved_pins to (caller_at w k).stack s) ∙ h) (λ p h. moved_scans to (caller_at w k).stack p ∙ h)

-- the frame on top goes, if it is a finaliser
under_known : (w : World) (stack : List Frame) → AllByRecursion (λ f. IsTrue (is_known w (frame_serial f))) stack → AllByRecursion (λ f. IsTrue (is_known w (frame_serial f))) (under_top stack)
under_known w [] h = tt
under_known w (f ∷ fs) h = h.1

under_pins : (stack : List Frame) (s : ℕ) → pins_of (under_top stack) s ≡ true → pins_of stack s ≡ true
under_pins [] s h = h
under_pins (f ∷ fs) s h = or_right (frame_serial f == s) (pins_of fs s) h

under_scans : (stack : List Frame) (s p : ℕ) (rest : List Frame) → stack ≡ Finaliser s ∷ rest → list_any (is_scan_of p) stack ≡ true → list_any (is_scan_of p) (under_top stack) ≡ true
under_scans stack s p rest e h = rw e (rw e at h)

-- ---- a turn

-- the scan on top pins its device
pub topped_pinned : (w : World) (k : ℕ) (f : Frame) (rest : List Frame) → (caller_at w k).stack ≡ f ∷ rest → is_pinned w (frame_serial f) ≡ true
topped_pinned w k f rest stack = pinned_by_frame w k (frame_serial f) (rw stack (or_left (frame_serial f == frame_serial f) (pins_of rest (frame_serial f)) (eq-eqb (frame_serial f) (frame_serial f) refl)))

turned_frames : (to : Position) (p : ℕ) (only : Option ℕ) (wanted : List Wanted) (from : Position) (rest stack : List Frame) → stack ≡ Scan p only wanted from ∷ rest → moved_top to stack ≡ Scan p only wanted to ∷ rest
turned_frames to p only wanted from rest stack e = rw e refl

-- the scan on top moves on, and still scans
record Turned (w v : World) (k p : ℕ) : Type 0 where
  stays : StaysSound v k
  scanned : is_scanned v p ≡ true
  spared : IsSpared w.live p

turned : (w : World) (k p spot : ℕ) (to : Position) (got : Option Arrival) → Sound w → next w k ≡ Does (Search p spot to got) → Turned w (with_stack w k (moved_top to (caller_at w k).stack)) k p
turned w k p spot to got sound e =
    let t : IsTurn w k p spot to got = has_reason w k (Search p spot to got) e in
    let top : Frame = Scan p t.only t.wanted t.from in
    let who : IsScanner w k = topped_scanner w k (Search p spot to got) top t.rest sound e t.stack in
    let stack : List Frame = moved_top to (caller_at w k).stack in
    let is : stack ≡ Scan p t.only t.wanted to ∷ t.rest = turned_frames to p t.only t.wanted t.from t.rest (caller_at w k).stack t.stack in
    let c : Caller = stacked w k stack in
    let s = settles (caller_at w k).over (caller_at w k).doing stack in
    record {
      stays = record { sound = sound_moved w k to sound who; who = scanner_set w k c who (s.scans (λ none. full (Scan p t.only t.wanted to) t.rest (sym is ∙ none))) };
      scanned = any_set_here (λ (d : Caller). list_any (is_scan_of p) d.stack) w.callers k c who.doer.there (rw (s.frames, is) (or_left (p == p) (list_any (is_scan_of p) t.rest) (eq-eqb p p refl)));
      spared = pinned_spared w p sound (topped_pinned w k top t.rest t.stack);
    }

pub search_stays : (w : World) (k p spot : ℕ) (to : Position) (got : Option Arrival) → MayRun w.setup → Kept w → next w k ≡ Does (Search p spot to got) → StaysSound (after w k (Search p spot to got)) k
unfolding after
search_stays w k p spot to None may kept e = (turned w k p spot to None kept.sound e).stays
search_stays w k p spot to (Some a) may kept e =
    let t = turned w k p spot to (Some a) kept.sound e in
    let come : MayCome w.setup w.live w.hidden p a = search_comes w k p spot to a may kept e in
    let v : World = with_stack w k (moved_top to (caller_at w k).stack) in
    attached_stays v k a true t.stays.sound t.stays.who
    (record { counted = kept.ranges.counted; known = rw come.parent come.known; unit = come.unit; bare = come.bare; spared = rw come.parent t.spared })
    (λ m. rw come.parent t.scanned)

pub sound_search : (w : World) (k p spot : ℕ) (to : Position) (got : Option Arrival) → MayRun w.setup → Kept w → next w k ≡ Does (Search p spot to got) → Sound (after w k (Search p spot to got))
sound_search w k p spot to got may kept e = (search_stays w k p spot to got may kept e).sound

-- ---- scans that were put off begin

begun_pins : (es : List Deferred) (s : ℕ) → pins_of (map (λ e. scan_of e.child) es) s ≡ entries_pin es s
begun_pins [] s = refl
begun_pins (e ∷ es) s = ap (λ b. e.child == s || b) (begun_pins es s)

fewer_pins : (q : Deferred → Bool) (es : List Deferred) (s : ℕ) → entries_pin (filter q es) s ≡ true → entries_pin es s ≡ true
fewer_pins q [] s h = h
fewer_pins q (e ∷ es) s h = cases (q e) (fewer_pins q es s) h
  where
    cases : (b : Bool) → (entries_pin (filter q es) s ≡ true → entries_pin es s ≡ true) → entries_pin (cond b (e ∷ filter q es) (filter q es)) s ≡ true → (e.child == s || entries_pin es s) ≡ true
    cases true more h = elim (or_cases (e.child == s) (entries_pin (filter q es) s) h) [ inl here ↦ or_left (e.child == s) (entries_pin es s) here | inr rest ↦ or_right (e.child == s) (entries_pin es s) (more rest) ]
    cases false more h = or_right (e.child == s) (entries_pin es s) (more h)

begun_known : (w : World) (es : List Deferred) → AllByRecursion (IsSoundlyDeferred w) es → AllByRecursion (λ f. IsTrue (is_known w (frame_serial f))) (map (λ e. scan_of e.child) es)
begun_known w [] h = tt
begun_known w (e ∷ es) h = (live_is_known w e.child h.0.0, begun_known w es h.1)

same_parent : (p : ℕ) (a b : Key) → a ≡ key.Parent p → b ≡ key.Parent p → same_key a b ≡ true
same_parent p a b x y = rw (x, y) (eq-eqb p p refl)

sound_released : (w : World) (k : ℕ) (interrupts_on : Bool) (which : Key) (rest : List Frame) → Sound w → IsScanner w k → AllByRecursion (λ f. IsTrue (is_known w (frame_serial f))) rest
    → ((s : ℕ) → pins_of rest s ≡ true → pins_of (caller_at w k).stack s ≡ true)
    → ((p : ℕ) → which ≢ key.Parent p → list_any (is_scan_of p) (caller_at w k).stack ≡ true → list_any (is_scan_of p) rest ≡ true)
    → (IsTrue interrupts_on → AllByRecursion (λ e. e.key ≢ key.Interrupts) (filter (λ e. not (same_key e.key which)) w.deferred))
    → Sound (released (record w { interrupts_on = interrupts_on }) k which rest)
unfolding released
sound_released w k interrupts_on which rest sound who known pins scans on = sound_stack w k stack left interrupts_on sound who.doer may on
  where
    left : List Deferred
    left = filter (λ e. not (same_key e.key which)) w.deferred

    begun : List Frame
    begun = map (λ e. scan_of e.child) (filter (λ e. same_key e.key which) w.deferred)

    stack : List Frame
    stack = begun ++ rest

    frame_pins : (s : ℕ) → pins_of stack s ≡ true → (is_pinned w s ≡ true) ⊎ IsSpared w.live s
    frame_pins s h = elim (or_cases (pins_of begun s) (pins_of rest s) (sym (list_any-append (λ f. frame_serial f == s) begun rest) ∙ h)) [
      | inl now ↦ inl (pinned_by_entry w s (fewer_pins (λ e. same_key e.key which) w.deferred s (sym (begun_pins (filter (λ e. same_key e.key which) w.deferred) s) ∙ now)))
      | inr old ↦ inl (pinned_by_frame w k s (pins s old))
    ]

    kept_scans : (e : Deferred) → not (same_key e.key which) ≡ true → (p : ℕ) → e.key ≡ key.Parent p → list_any (is_scan_of p) (caller_at w k).stack ≡ true → list_any (is_scan_of p) stack ≡ true
    kept_scans e differs p is h =
        let others : which ≢ key.Parent p = λ same. clash (not (same_key e.key which)) differs (rw (same_parent p e.key which is same) refl) in
        rw (list_any-append (is_scan_of p) begun rest) (or_right (list_any (is_scan_of p) begun) (list_any (is_scan_of p) rest) (scans p others h))

    may : MayStack w k stack left
    may = record {
      known = all_append (λ f. IsTrue (is_known w (frame_serial f))) begun rest
          (begun_known w (filter (λ e. same_key e.key which) w.deferred) (all_filter (IsSoundlyDeferred w) (λ e. same_key e.key which) w.deferred sound.deferred)) known;
      scans = λ later some. who.scans later;
      frame_pins = frame_pins;
      entry_pins = λ s h. inl (pinned_by_entry w s (fewer_pins (λ e. not (same_key e.key which)) w.deferred s h));
      put_off = all_filter (IsSoundlyDeferred w) (λ e. not (same_key e.key which)) w.deferred sound.deferred;
      keeps = all_imp (λ (e : Deferred). not (same_key e.key which) ≡ true) (λ e. (p : ℕ) → e.key ≡ key.Parent p → list_any (is_scan_of p) (caller_at w k).stack ≡ true → list_any (is_scan_of p) stack ≡ true)
          kept_scans left (all_passing (λ e. not (same_key e.key which)) w.deferred);
    }

-- where the scan of p is over, the frames under it have the other scans
other_scans : (p q : ℕ) (only : Option ℕ) (wanted : List Wanted) (from : Position) (rest stack : List Frame) → stack ≡ Scan p only wanted from ∷ rest → key.Parent p ≢ key.Parent q
    → list_any (is_scan_of q) stack ≡ true → list_any (is_scan_of q) (under_top stack) ≡ true
other_scans p q only wanted from rest stack e differs h = rw e (cases (p == q) refl (rw e at h))
  where
    cases : (b : Bool) → (p == q) ≡ b → (b || list_any (is_scan_of q) rest) ≡ true → list_any (is_scan_of q) rest ≡ true
    cases true same k = absurd (differs (ap key.Parent (eqb-true p q same)))
    cases false same k = k

pub sound_end_scan : (w : World) (k p : ℕ) → Sound w → next w k ≡ Does (EndScan p) → Sound (after w k (EndScan p))
unfolding after
sound_end_scan w k p sound e =
    let t : IsScanEnd w k p = has_reason w k (EndScan p) e in
    let top : Frame = Scan p t.only t.wanted t.from in
    sound_released w k w.interrupts_on (key.Parent p) (under_top (caller_at w k).stack) sound (topped_scanner w k (EndScan p) top t.rest sound e t.stack)
    (under_known w (caller_at w k).stack (old_known w k sound)) (under_pins (caller_at w k).stack)
    (λ q differs. other_scans p q t.only t.wanted t.from t.rest (caller_at w k).stack t.stack differs)
    (λ on. all_filter (λ (d : Deferred). d.key ≢ key.Interrupts) (λ d. not (same_key d.key (key.Parent p))) w.deferred (sound.interrupts_on on))

no_interrupts : (which : Key) → not (same_key which key.Interrupts) ≡ true → which ≢ key.Interrupts
no_interrupts which h e = clash (not (same_key which key.Interrupts)) h (rw e refl)

pub sound_interrupts : (w : World) (k : ℕ) → Sound w → next w k ≡ Does BeginInterrupts → Sound (after w k BeginInterrupts)
unfolding after
sound_interrupts w k sound e =
    let t : IsPhase w k = has_reason w k BeginInterrupts e in
    sound_released w k true key.Interrupts (caller_at w k).stack sound (boot_scanner w k BeginInterrupts e t.boots) (old_known w k sound) (λ s h. h) (λ p differs h. h)
    (λ on. all_imp (λ (d : Deferred). not (same_key d.key key.Interrupts) ≡ true) (λ (d : Deferred). d.key ≢ key.Interrupts) (λ d h. no_interrupts d.key h)
    (filter (λ d. not (same_key d.key key.Interrupts)) w.deferred) (all_passing (λ d. not (same_key d.key key.Interrupts)) w.deferred))

-- ---- a finaliser

-- its device is pinned by its frame, or the boot goes on
pub called_spared : (w : World) (k s : ℕ) (listed : Option ℕ) (anew : Bool) → Sound w → has_ended w k ≡ false → IsCalled w k s listed anew → IsSpared w.live s
called_spared w k s None anew sound goes called = pinned_spared w s sound (topped_pinned w k (Finaliser s) called.0 called.1)
called_spared w k s (Some place) false sound goes called = boot_spared w s sound (rw called.0 at goes)
called_spared w k s (Some place) true sound goes called = boot_spared w s sound (rw called.0 at goes)

called_scanner : (w : World) (k s : ℕ) (d : Deed) (listed : Option ℕ) (anew : Bool) → Sound w → next w k ≡ Does d → IsCalled w k s listed anew → IsScanner w k
called_scanner w k s d None anew sound e called = topped_scanner w k d (Finaliser s) called.0 sound e called.1
called_scanner w k s d (Some place) false sound e called = boot_scanner w k d e called.0
called_scanner w k s d (Some place) true sound e called = boot_scanner w k d e called.0

-- other hidden spots, and another place in the boot
sound_shown : (w : World) (k : ℕ) (hidden : List ℕ) (place : ℕ) (pass_repeats : Bool) → Sound w → IsDoer w k → Sound (record w { hidden = hidden; next_finaliser = place; pass_repeats = pass_repeats })
sound_shown w k hidden place pass_repeats sound who =
    sound_beside w k w.deferred w.finalisers hidden place pass_repeats sound who (λ s h. inl (pinned_by_entry w s h)) sound.deferred sound.interrupts_on (λ goes. (sound.boot (not_ended w 0 goes)).finalisers)

shown_scanner : (w : World) (k : ℕ) (hidden : List ℕ) → IsScanner w k → IsScanner (record w { hidden = hidden }) k
shown_scanner w k hidden who = record { doer = record { there = who.doer.there; unended = who.doer.unended; alone = who.doer.alone }; scans = who.scans }

-- the place in the boot's list moves on
sound_list : (w : World) (k : ℕ) (listed : Option ℕ) (anew answer : Bool) → Sound w → IsDoer w k → Sound (list_moved w listed anew answer)
sound_list w k None anew answer sound who = sound
sound_list w k (Some place) anew answer sound who = sound_shown w k w.hidden (place + 1) (answer || (not anew && w.pass_repeats)) sound who

answered : (w : World) (k : ℕ) (listed : Option ℕ) → Sound w → Sound (finaliser_done w k listed true)
answered w k None sound = sound
answered w k (Some place) sound = sound

-- what comes to the spot
sound_arrived : (w : World) (k s x : ℕ) (got : Option Arrival) (listed : Option ℕ) (anew : Bool) → MayRun w.setup → Kept w → next w k ≡ Does (Finalise s (Some x) got listed anew)
    → StaysSound (arrived (show_spot w (Some x)) k got false) k
sound_arrived w k s x got listed anew may kept e = cases got e
  where
    v : World
    v = show_spot w (Some x)

    shown : (o : Option Arrival) → next w k ≡ Does (Finalise s (Some x) o listed anew) → StaysSound v k
    shown o e =
        let call : IsCall w k s (Some x) o listed anew = has_reason w k (Finalise s (Some x) o listed anew) e in
        let who : IsScanner w k = called_scanner w k s (Finalise s (Some x) o listed anew) listed anew kept.sound e call.called in
        record { sound = sound_shown w k v.hidden w.next_finaliser w.pass_repeats kept.sound who.doer; who = shown_scanner w k v.hidden who }

    cases : (o : Option Arrival) → next w k ≡ Does (Finalise s (Some x) o listed anew) → StaysSound (arrived v k o false) k
    cases None e = shown None e
    cases (Some a) e =
        let old : StaysSound v k = shown (Some a) e in
        let call : IsCall w k s (Some x) (Some a) listed anew = has_reason w k (Finalise s (Some x) (Some a) listed anew) e in
        let come : MayCome w.setup w.live v.hidden s a = finalise_comes w k s x a listed anew may kept e in
        let goes : has_ended w k ≡ false = (doing_so w k (Finalise s (Some x) (Some a) listed anew) e).unended in
        attached_stays v k a false old.sound old.who
        (record { counted = kept.ranges.counted; known = rw come.parent come.known; unit = come.unit; bare = come.bare; spared = rw come.parent (called_spared w k s listed anew kept.sound goes call.called) })
        (λ m. cc)

-- a frame goes at answer 0, and the boot's list moves on
sound_quiet : (w : World) (k s : ℕ) (listed : Option ℕ) (anew : Bool) → Sound w → IsScanner w k → IsCalled w k s listed anew → Sound (finaliser_done (list_moved w listed anew false) k listed false)
sound_quiet w k s None anew sound who called =
    sound_less w k (under_top (caller_at w k).stack) sound who (under_known w (caller_at w k).stack (old_known w k sound)) (under_pins (caller_at w k).stack)
    (λ p. under_scans (caller_at w k).stack s p called.0 called.1)
sound_quiet w k s (Some place) anew sound who called = sound_list w k (Some place) anew false sound who.doer

pub sound_finalise : (w : World) (k s : ℕ) (shown : Option ℕ) (got : Option Arrival) (listed : Option ℕ) (anew : Bool) → MayRun w.setup → Kept w → next w k ≡ Does (Finalise s shown got listed anew)
    → Sound (after w k (Finalise s shown got listed anew))
unfolding after
sound_finalise w k s None None listed anew may kept e =
    let call : IsCall w k s None None listed anew = has_reason w k (Finalise s None None listed anew) e in
    sound_quiet w k s listed anew kept.sound (called_scanner w k s (Finalise s None None listed anew) listed anew kept.sound e call.called) call.called
sound_finalise w k s None (Some a) listed anew may kept e = absurd (none_shown w k s a listed anew e)
sound_finalise w k s (Some x) got listed anew may kept e =
    let v : World = arrived (show_spot w (Some x)) k got false in
    let stays : StaysSound v k = sound_arrived w k s x got listed anew may kept e in
    answered (list_moved v listed anew true) k listed (sound_list v k listed anew true stays.sound stays.who.doer)

-- ---- a caller ends

none_held : (w : World) (k : ℕ) → first_held w k ≡ None → (d : Dev) → Contains w.live d → is_held w k d.serial ≡ false
none_held w k e d here = of_each (λ (d : Dev). is_held w k d.serial ≡ false) w.live d (none_found (λ d. is_held w k d.serial) w.live e) here
  where
    none_found : (p : Dev → Bool) (xs : List Dev) → find p xs ≡ None → AllByRecursion (λ d. p d ≡ false) xs
    none_found p [] h = tt
    none_found p (x ∷ xs) h = cases (p x) refl (none_found p xs) h
      where
        cases : (b : Bool) → p x ≡ b → (find p xs ≡ None → AllByRecursion (λ d. p d ≡ false) xs) → cond b (Some x) (find p xs) ≡ None → (p x ≡ false) × AllByRecursion (λ d. p d ≡ false) xs
        cases true is more h = absurd cc
        cases false is more h = (is, more h)

-- a reference is held by its caller
held_by : (w : World) (k : ℕ) (r : Ref) → Contains w.refs r → r.caller ≡ k → is_held w k r.serial ≡ true
held_by w k r here same = is_true (is_held w k r.serial) (λ h. clash (r.serial == r.serial && r.caller == k) (both (eq-eqb r.serial r.serial refl) (eq-eqb r.caller k same)) (of_each (λ (q : Ref). (q.serial == r.serial && q.caller == k) ≡ false) w.refs r (none_of (λ (q : Ref). q.serial == r.serial && q.caller == k) w.refs h) here))
  where
    both : {a b : Bool} → a ≡ true → b ≡ true → (a && b) ≡ true
    both x y = rw (x, y) refl

    is_true : (b : Bool) → (b ≡ false → ⊥) → b ≡ true
    is_true true h = refl
    is_true false h = absurd (h refl)

nothing_held : (w : World) (k : ℕ) → Sound w → has_ended w k ≡ false → IsOver w k → AllByRecursion (λ r. r.caller ≢ k) w.refs
nothing_held w k sound goes (inl boots) =
    let first : has_ended w 0 ≡ false = rw boots.0 at goes in
    rw (sound.boot (not_ended w 0 first)).no_refs tt
nothing_held w k sound goes (inr over) = each_of (λ (r : Ref). r.caller ≢ k) w.refs (λ r here same. held r here same)
  where
    held : (r : Ref) → Contains w.refs r → r.caller ≡ k → ⊥
    held r here same =
        let live : IsTrue (is_live w.live r.serial) = of_each (λ (r : Ref). IsTrue (is_live w.live r.serial)) w.refs r sound.refs.live_ones here in
        let d = live_contained w.live r.serial live in
        clash (is_held w k r.serial) (held_by w k r here same) (subst (λ (s : ℕ). is_held w k s ≡ false) d.2 (none_held w k over.2 d.0 d.1))

-- a caller without frames and between commands comes to something of that kind
sound_between : (w : World) (k : ℕ) (a : Activity) → Sound w → IsDoer w k → is_quiet a ≡ true → is_quiet (caller_at w k).doing ≡ true → (caller_at w k).stack ≡ []
    → (a ≡ activity.Ended → AllByRecursion (λ r. r.caller ≢ k) w.refs) → Sound (doing w k a)
sound_between w k a sound who quiet was stack over =
    let c : Caller = record { over = (caller_at w k).over; doing = a; stack = (caller_at w k).stack } in
    let may : MayBe w k c = record {
      there = who.there;
      unended = who.unended;
      alone = who.alone;
      doing = inr (quiet, was);
      known = old_known w k sound;
      scans = λ later some. absurd (some stack);
      ended = λ is. (stack, over is);
    } in
    sound_restacked w k c w.deferred w.interrupts_on w.finalisers w.hidden w.next_finaliser w.pass_repeats sound may
    (λ s h. inl (elim (or_cases (pins_of (caller_at w k).stack s) (entries_pin w.deferred s) h) [ inl frame ↦ pinned_by_frame w k s frame | inr entry ↦ pinned_by_entry w s entry ]))
    (same_put_off w k c w.deferred w.interrupts_on w.finalisers w.hidden w.next_finaliser w.pass_repeats refl sound.deferred) sound.interrupts_on (λ goes. (sound.boot (not_ended w 0 goes)).finalisers)

pub sound_end : (w : World) (k : ℕ) → Sound w → next w k ≡ Does EndCaller → Sound (after w k EndCaller)
unfolding after
sound_end w k sound e =
    let t : IsEnd w k = has_reason w k EndCaller e in
    let who : IsDoer w k = doer w k EndCaller e in
    sound_between w k activity.Ended sound who refl (quiet_end w k e) t.stack (λ is. nothing_held w k sound who.unended t.over)

-- ---- a rescan

scans_now : (w : World) (k : ℕ) → IsDoer w k → IsScanner (doing w k activity.Scans) k
scans_now w k who =
    let c : Caller = record { over = (caller_at w k).over; doing = activity.Scans; stack = (caller_at w k).stack } in
    let here : (caller_at (with_caller w k c) k).doing ≡ activity.Scans = ap (λ (d : Caller). d.doing) (caller_here w k c who.there) in
    record {
      doer = record { there = rw (callers_kept w k c) who.there; unended = ap is_ended here; alone = first_goes w k c who };
      scans = λ later. here;
    }

-- what is searched again is live, neither condemned nor asleep
again_spared : (w : World) (k s : ℕ) (only : Option ℕ) → Sound w → SearchesAgain w k s only → IsSpared w.live s
again_spared w k s only sound again =
    let d : Dev = again.named.dev in
    each_of (λ (e : Dev). e.serial ≡ s → (e.condemned ≡ None) × (e.asleep ≡ false)) w.live
    (λ e here same. let one : d ≡ e = one_serial w.setup w.live d e sound.devices.apart again.named.there here (again.named.serial ∙ sym same) in
    subst (λ (x : Dev). (x.condemned ≡ None) × (x.asleep ≡ false)) one (not_condemned d again.spared, again.awake))

pub sound_rescan : (w : World) (k s : ℕ) (only : Option ℕ) → Sound w → next w k ≡ Does (Rescan s only) → Sound (after w k (Rescan s only))
unfolding after
sound_rescan w k s only sound e =
    let again : SearchesAgain w k s only = has_command_reason w k (Rescan s only) e in
    let at : IsBetween w k = again.begins.between in
    let who : IsDoer w k = doer w k (Rescan s only) e in
    let v : World = doing w k activity.Scans in
    let scans : Sound v = sound_between w k activity.Scans sound who refl (quiet_rests (caller_at w k).doing at.idle) at.no_frames (λ is. absurd (never is)) in
    sound_pushed v k (rescan_frame w k s only) scans (scans_now w k who) (live_is_known v s again.named.live) (again_spared w k s only sound again)
  where
    never : activity.Scans ≡ activity.Ended → ⊥
    never h = cc
