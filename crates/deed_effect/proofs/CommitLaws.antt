-- What a commit changes is the world after the deed.
use Rattle.std.proofs.Common.{◌≡◌, ◌<◌, ◌^◌, ◌-◌, ℕ, Bool, true, false, not, List, [], ◌∷◌, ◌++◌, length, slice_set, is_some, Option, Some, None, refl, sym, ◌∙◌, ap, arith}
use Rattle.std.specs.Prelude.{IsTrue, IfSome}
use Rattle.std.specs.List.{slice_index_or}
use Rattle.std.proofs.lemmas.List.{length-map}
use Rattle.run_rules.specs.declared.world.Arrival.{Arrival}
use Rattle.run_rules.specs.declared.world.Frame.{Frame}
use Rattle.run_rules.specs.declared.world.Frame.TheVariants.{Scan, Finaliser}
use Rattle.run_rules.specs.declared.world.Key.TheVariants as key
use Rattle.run_rules.specs.declared.world.Placing.{Placing}
use Rattle.run_rules.specs.declared.world.Placing.TheVariants.{Nowhere, Queued, PutOff, Pushed}
use Rattle.run_rules.specs.declared.world.Position.{Position}
use Rattle.run_rules.specs.declared.world.Setup.{Setup}
use Rattle.run_rules.specs.World.{World, Caller, caller_at, has_ended, nobody, policy_of, offered_by}
use Rattle.run_rules.specs.declared.deed.Deed.TheVariants.{Search, EndScan, BeginInterrupts, Finalise}
use Rattle.run_rules.specs.After.{after, released, under_top, moved_top, with_stack, arrived, attached, listed, finaliser_placed, scan_placed, finaliser_placing, scan_placing, place_finaliser, place_scan, show_spot, list_moved, finaliser_done}
use Rattle.defer_queue.specs.Queue.{others_of}
use Rattle.run_sound.proofs.Coming.{IsCall, IsCalled}
use Rattle.scan_engine.specs.Frames.{is_scanning}
use Rattle.run_world.specs.declared.caller.CallerState.{CallerState}
use Rattle.run_world.specs.declared.parts.Core.{Core}
use Rattle.run_world.specs.View.{caller_of, callers_of, world_of}
use Rattle.run_world.specs.Callers.{stacked, framed, released_frames}
use Rattle.deed_effect.specs.Commits.{shown_now}
use Rattle.run_world.proofs.CallerLaws.{with_callers, at_is, settled_frames, set_again, set_own}

-- ---- a scan is over, interrupts work

pub scan_over : (w v : World) (k p : ℕ)
    → v ≡ record w { deferred = others_of w.deferred (key.Parent p); callers = slice_set w.callers k (framed (caller_at w k) (released_frames w.deferred (key.Parent p) ++ under_top (caller_at w k).stack)) }
    → v ≡ after w k (EndScan p)
unfolding after released
scan_over w v k p is = is

pub phase_comes : (w v : World) (k : ℕ)
    → v ≡ record w {
      interrupts_on = true;
      deferred = others_of w.deferred key.Interrupts;
      callers = slice_set w.callers k (framed (caller_at w k) (released_frames w.deferred key.Interrupts ++ (caller_at w k).stack));
    }
    → v ≡ after w k BeginInterrupts
unfolding after released
phase_comes w v k is = is

-- ---- a scan moves

pub moved_scans : (to : Position) (st : List Frame) → is_scanning (moved_top to st) ≡ is_scanning st
moved_scans to [] = refl
moved_scans to (Scan s only wanted from ∷ fs) = refl
moved_scans to (Finaliser s ∷ fs) = refl

pub moved_twice : (a b : Position) (st : List Frame) → moved_top a (moved_top b st) ≡ moved_top a st
moved_twice a b [] = refl
moved_twice a b (Scan s only wanted from ∷ fs) = refl
moved_twice a b (Finaliser s ∷ fs) = refl

moved_is : (c : Caller) (to : Position) (st : List Frame) → IsTrue (is_scanning st) → framed c (moved_top to st) ≡ stacked c (moved_top to st)
moved_is c to [] h = absurd cc
moved_is c to (Scan s only wanted from ∷ fs) h = settled_frames c (Scan s only wanted to) fs
moved_is c to (Finaliser s ∷ fs) h = absurd cc

-- then what was found comes
pub searched : (w m v : World) (k p spot : ℕ) (to : Position) (got : Option Arrival) → IsTrue (is_scanning (caller_at w k).stack)
    → m ≡ with_callers w (slice_set w.callers k (stacked (caller_at w k) (moved_top to (caller_at w k).stack)))
    → v ≡ arrived m k got true → v ≡ after w k (Search p spot to got)
unfolding after
searched w m v k p spot to got scans moved came =
    let stands : m ≡ with_stack w k (moved_top to (caller_at w k).stack) =
    moved ∙ ap (λ (c : Caller). with_callers w (slice_set w.callers k c)) (sym (moved_is (caller_at w k) to (caller_at w k).stack scans)) in
    came ∙ ap (λ (x : World). arrived x k got true) stands

-- or the scan moves back
pub moved_back : (w : World) (k : ℕ) (to was : Position) → moved_top was (caller_at w k).stack ≡ (caller_at w k).stack
    → slice_set (slice_set w.callers k (stacked (caller_at w k) (moved_top to (caller_at w k).stack))) k
    (stacked (stacked (caller_at w k) (moved_top to (caller_at w k).stack)) (moved_top was (moved_top to (caller_at w k).stack)))
    ≡ w.callers
moved_back w k to was same =
    let c : Caller = caller_at w k in
    set_again w.callers k (stacked c (moved_top to c.stack)) (stacked c (moved_top was (moved_top to c.stack)))
    ∙ ap (λ (st : List Frame). slice_set w.callers k (stacked c st)) (moved_twice was to c.stack ∙ same) ∙ set_own w.callers k nobody

-- ---- a finaliser is called

-- hidden spots play no part in what comes
finaliser_unseen : (w : World) (h : List ℕ) (k : ℕ) (f : Placing) (s : ℕ) → place_finaliser f (record w { hidden = h }) k s ≡ record (place_finaliser f w k s) { hidden = h }
finaliser_unseen w h k Nowhere s = refl
finaliser_unseen w h k Queued s = refl
finaliser_unseen w h k PutOff s = refl
finaliser_unseen w h k Pushed s = refl

scan_unseen : (w : World) (h : List ℕ) (k : ℕ) (p : Placing) (parent s : ℕ) → place_scan p (record w { hidden = h }) k parent s ≡ record (place_scan p w k parent s) { hidden = h }
scan_unseen w h k Nowhere parent s = refl
scan_unseen w h k Queued parent s = refl
scan_unseen w h k PutOff parent s = refl
scan_unseen w h k Pushed parent s = refl

arrived_unseen : (w : World) (h : List ℕ) (k : ℕ) (got : Option Arrival) (may_defer : Bool) → arrived (record w { hidden = h }) k got may_defer ≡ record (arrived w k got may_defer) { hidden = h }
unfolding attached listed finaliser_placed scan_placed
arrived_unseen w h k None may_defer = refl
arrived_unseen w h k (Some a) may_defer =
    let pol = policy_of w.setup a.row in
    let off = offered_by w.setup a.row in
    let x : World = place_finaliser (finaliser_placing pol (has_ended (listed w a) 0)) (listed w a) k w.next in
    ap (λ (v : World). place_scan (scan_placing pol off v.interrupts_on may_defer) v k a.parent w.next) (finaliser_unseen (listed w a) h k (finaliser_placing pol (has_ended (listed w a) 0)) w.next)
    ∙ scan_unseen x h k (scan_placing pol off x.interrupts_on may_defer) a.parent w.next

shown_is : (w : World) (shown : Option ℕ) → show_spot w shown ≡ record w { hidden = shown_now w.hidden shown }
shown_is w None = refl
shown_is w (Some x) = refl

pub hidden_stays : (w : World) (k : ℕ) (got : Option Arrival) (may_defer : Bool) → (arrived w k got may_defer).hidden ≡ w.hidden
hidden_stays w k got may_defer = ap (λ (v : World). v.hidden) (arrived_unseen w w.hidden k got may_defer)

-- the world after it, from the one in which what was found has come
pub finalised : (w : World) (k of : ℕ) (shown : Option ℕ) (got : Option Arrival) (listed : Option ℕ) (anew : Bool)
    → finaliser_done (list_moved (record (arrived w k got false) { hidden = shown_now w.hidden shown }) listed anew (is_some shown)) k listed (is_some shown)
    ≡ after w k (Finalise of shown got listed anew)
unfolding after
finalised w k of shown got listed anew =
    ap (λ (v : World). finaliser_done (list_moved v listed anew (is_some shown)) k listed (is_some shown))
    (sym (ap (λ (v : World). arrived v k got false) (shown_is w shown) ∙ arrived_unseen w (shown_now w.hidden shown) k got false))

-- the hidden spots afterwards
pub hidden_now : (w x : World) (k : ℕ) (got : Option Arrival) (shown : Option ℕ) (h : List ℕ) → x ≡ arrived w k got false → h ≡ shown_now x.hidden shown → h ≡ shown_now w.hidden shown
hidden_now w x k got shown h came is = is ∙ ap (λ (y : List ℕ). shown_now y shown) (ap (λ (v : World). v.hidden) came ∙ hidden_stays w k got false)

pub none_is : {A : Type 0} (o : Option A) (b : Bool) → is_some o ≡ not b → b ≡ true → o ≡ None
none_is None b e h = refl
none_is (Some x) true e h = absurd cc
none_is (Some x) false e h = absurd cc

pub some_is : {A : Type 0} (o : Option A) (b : Bool) → is_some o ≡ not b → b ≡ false → is_some o ≡ true
some_is o b e h = e ∙ ap not h

-- a frame that is over, of a finaliser that shows no spot
pub frame_over : (w v : World) (k of : ℕ) (shown : Option ℕ) (got : Option Arrival) (listed : Option ℕ) (anew : Bool) → shown ≡ None → got ≡ None → listed ≡ None
    → v ≡ with_callers w (slice_set w.callers k (framed (caller_at w k) (under_top (caller_at w k).stack))) → v ≡ after w k (Finalise of shown got listed anew)
unfolding after
frame_over w v k of shown got listed anew a b c is = rw (a, b, c) is

-- the caller at a place, where the world is the same as before
pub caller_same : (s : Setup) (old new : Core) (k : ℕ) (x : CallerState) → k < length old.callers.items → world_of s new ≡ world_of s old → x ≡ slice_index_or new.callers.items k x
    → caller_of x ≡ caller_at (world_of s old) k
caller_same s old new k x lt same is =
    let here : callers_of new.callers.items ≡ callers_of old.callers.items = ap (λ (v : World). v.callers) same in
    let there : k < length new.callers.items = omega (arith, lt, ap length here, length-map new.callers.items caller_of, length-map old.callers.items caller_of) in
    at_is caller_of new.callers.items k x nobody there is ∙ ap (λ (cs : List Caller). slice_index_or cs k nobody) here

-- ---- a finaliser that is called

-- its place in the boot's list is there
pub place_low : (w : World) (k s : ℕ) (listed : Option ℕ) (anew : Bool) → length w.finalisers < 2 ^ 64 → IsCalled w k s listed anew → IfSome listed (λ place. place < 2 ^ 64 - 1)
place_low w k s None anew few called = tt
place_low w k s (Some place) false few called = omega (arith, few, called.3, called.4)
place_low w k s (Some place) true few called = omega (arith, called.3)

-- or its frame is on top, and without a spot nothing comes
pub frame_there : (w : World) (k s : ℕ) (shown : Option ℕ) (got : Option Arrival) (listed : Option ℕ) (anew : Bool) → IsCall w k s shown got listed anew → listed ≡ None → shown ≡ None
    → (0 < length (caller_at w k).stack) × (got ≡ None)
frame_there w k s None got None anew call a b = (rw call.called.1 (omega arith), call.came)
frame_there w k s None got (Some place) anew call a b = absurd cc
frame_there w k s (Some x) got listed anew call a b = absurd cc
