-- Each finaliser that is before a caller is of a device, after each deed.
use Rattle.std.proofs.Common.{◌≡◌, ◌<◌, ℕ, Bool, true, false, List, [], ◌∷◌, ◌++◌, map, Option, Some, None, refl, is_some}
use Rattle.std.specs.Prelude.{filter, if◌then◌else◌}
use Rattle.std.specs.List.{AllByRecursion}
use Rattle.run_rules.specs.declared.world.Setup.{Setup}
use Rattle.run_rules.specs.declared.world.Activity.{Activity}
use Rattle.run_rules.specs.declared.world.Activity.TheVariants as activity
use Rattle.run_rules.specs.declared.world.Arrival.{Arrival}
use Rattle.run_rules.specs.declared.world.Deferred.{Deferred}
use Rattle.run_rules.specs.declared.world.Frame.{Frame}
use Rattle.run_rules.specs.declared.world.Frame.TheVariants.{Scan, Finaliser}
use Rattle.run_rules.specs.declared.world.Key.{Key}
use Rattle.run_rules.specs.declared.world.Key.TheVariants as key
use Rattle.run_rules.specs.declared.world.Placing.{Placing}
use Rattle.run_rules.specs.declared.world.Placing.TheVariants.{Nowhere, Queued, PutOff, Pushed}
use Rattle.run_rules.specs.declared.world.Position.{Position}
use Rattle.run_rules.specs.World.{World, Caller, beginning, caller_at, nobody, opening, scan_of, policy_of, offered_by, has_ended}
use Rattle.run_rules.specs.declared.deed.Deed.{Deed}
use Rattle.run_rules.specs.declared.deed.Deed.TheVariants.{Search, EndScan, BeginInterrupts, Finalise, EndCaller, Drop, Start, Detach, Free, Rescan, BeginPower, Sleep, Wake, Unplug}
use Rattle.run_rules.specs.After.{after, settled, with_stack, doing, over, under_top, moved_top, released, arrived, attached, listed, finaliser_placed, scan_placed, finaliser_placing, scan_placing, place_finaliser, place_scan, show_spot, list_moved, finaliser_done, same_key, freed, freeing_target, rescan_frame}
use Rattle.run_sound.specs.Calls.{IsOfDevice, CallsDevices}
use Rattle.run_sound.proofs.Callers.{all_set, all_or, all_append}

abbrev Each : List Frame → Type 0
Each fs = AllByRecursion IsOfDevice fs

-- the frames of a caller
each_of : (w : World) (k : ℕ) → CallsDevices w → Each (caller_at w k).stack
each_of w k h = all_or (λ (c : Caller). Each c.stack) w.callers k nobody h tt

settled_stack : (over : ℕ) (a : Activity) (st : List Frame) → Each st → Each (settled (record { over = over; doing = a; stack = st })).stack
settled_stack over activity.Scans [] h = tt
settled_stack over activity.Scans (f ∷ fs) h = h
settled_stack over activity.Idle st h = h
settled_stack over (activity.Transfer t) st h = h
settled_stack over (activity.Frees s) st h = h
settled_stack over (activity.Power what s) st h = h
settled_stack over activity.Ended st h = h

stacked : (w : World) (k : ℕ) (st : List Frame) → CallsDevices w → Each st → CallsDevices (with_stack w k st)
stacked w k st h each = all_set (λ (c : Caller). Each c.stack) w.callers k _ h (settled_stack (caller_at w k).over (caller_at w k).doing st each)

done_so : (w : World) (k : ℕ) (a : Activity) → CallsDevices w → CallsDevices (doing w k a)
done_so w k a h = all_set (λ (c : Caller). Each c.stack) w.callers k _ h (each_of w k h)

over_so : (w : World) (k : ℕ) → CallsDevices w → CallsDevices (over w k)
over_so w k h = all_set (λ (c : Caller). Each c.stack) w.callers k _ h (each_of w k h)

-- ---- frames

each_under : (fs : List Frame) → Each fs → Each (under_top fs)
each_under [] h = tt
each_under (f ∷ fs) h = h.1

each_moved : (to : Position) (fs : List Frame) → Each fs → Each (moved_top to fs)
each_moved to [] h = tt
each_moved to (Scan s only wanted from ∷ fs) h = h
each_moved to (Finaliser s ∷ fs) h = h

each_scan : (es : List Deferred) → Each (map (λ e. scan_of e.child) es)
each_scan [] = tt
each_scan (e ∷ es) = (tt, each_scan es)

released_so : (w : World) (k : ℕ) (which : Key) (rest : List Frame) → CallsDevices w → Each rest → CallsDevices (released w k which rest)
unfolding released
released_so w k which rest h each =
    stacked w k (map (λ e. scan_of e.child) (filter (λ e. same_key e.key which) w.deferred) ++ rest) h
    (all_append IsOfDevice (map (λ e. scan_of e.child) (filter (λ e. same_key e.key which) w.deferred)) rest (each_scan (filter (λ e. same_key e.key which) w.deferred)) each)

-- ---- what comes

finaliser_so : (w : World) (k : ℕ) (f : Placing) (s : ℕ) → 0 < s → CallsDevices w → CallsDevices (place_finaliser f w k s)
finaliser_so w k Nowhere s low h = h
finaliser_so w k Queued s low h = h
finaliser_so w k PutOff s low h = h
finaliser_so w k Pushed s low h = stacked w k (Finaliser s ∷ (caller_at w k).stack) h (low, each_of w k h)

scan_so : (w : World) (k : ℕ) (p : Placing) (parent s : ℕ) → CallsDevices w → CallsDevices (place_scan p w k parent s)
scan_so w k Nowhere parent s h = h
scan_so w k Queued parent s h = h
scan_so w k PutOff parent s h = h
scan_so w k Pushed parent s h = stacked w k (scan_of s ∷ (caller_at w k).stack) h (tt, each_of w k h)

arrived_so : (w : World) (k : ℕ) (got : Option Arrival) (may_defer : Bool) → 0 < w.next → CallsDevices w → CallsDevices (arrived w k got may_defer)
unfolding attached listed finaliser_placed scan_placed
arrived_so w k None may_defer low h = h
arrived_so w k (Some a) may_defer low h =
    let pol = policy_of w.setup a.row in
    let f = finaliser_placing pol (has_ended (listed w a) 0) in
    let x : World = place_finaliser f (listed w a) k w.next in
    scan_so x k (scan_placing pol (offered_by w.setup a.row) x.interrupts_on may_defer) a.parent w.next (finaliser_so (listed w a) k f w.next low h)

shown_next : (w : World) (shown : Option ℕ) → (show_spot w shown).next ≡ w.next
shown_next w None = refl
shown_next w (Some x) = refl

shown_so : (w : World) (shown : Option ℕ) → CallsDevices w → CallsDevices (show_spot w shown)
shown_so w None h = h
shown_so w (Some x) h = h

moved_so : (w : World) (listed : Option ℕ) (anew answer : Bool) → CallsDevices w → CallsDevices (list_moved w listed anew answer)
moved_so w None anew answer h = h
moved_so w (Some place) anew answer h = h

ended_so : (w : World) (k : ℕ) (listed : Option ℕ) (answer : Bool) → CallsDevices w → CallsDevices (finaliser_done w k listed answer)
ended_so w k (Some place) answer h = h
ended_so w k None true h = h
ended_so w k None false h = stacked w k (under_top (caller_at w k).stack) h (each_under (caller_at w k).stack (each_of w k h))

freed_so : (v : World) (k : ℕ) (b : Bool) → CallsDevices v → CallsDevices (if b then over v k else v)
freed_so v k true h = over_so v k h
freed_so v k false h = h

pub calls_after : (w : World) (k : ℕ) (d : Deed) → 0 < w.next → CallsDevices w → CallsDevices (after w k d)
unfolding after
calls_after w k (Search p spot to got) low h =
    arrived_so (with_stack w k (moved_top to (caller_at w k).stack)) k got true low (stacked w k (moved_top to (caller_at w k).stack) h (each_moved to (caller_at w k).stack (each_of w k h)))
calls_after w k (EndScan p) low h = released_so w k (key.Parent p) (under_top (caller_at w k).stack) h (each_under (caller_at w k).stack (each_of w k h))
calls_after w k BeginInterrupts low h = released_so (record w { interrupts_on = true }) k key.Interrupts (caller_at w k).stack h (each_of w k h)
calls_after w k (Finalise s shown got listed anew) low h =
    ended_so (list_moved (arrived (show_spot w shown) k got false) listed anew (is_some shown)) k listed (is_some shown)
    (moved_so (arrived (show_spot w shown) k got false) listed anew (is_some shown)
    (arrived_so (show_spot w shown) k got false (rw (shown_next w shown) low) (shown_so w shown h)))
calls_after w k EndCaller low h = done_so w k activity.Ended h
calls_after w k (Drop s) low h = h
calls_after w k (Start t) low h = done_so w k (activity.Transfer t) h
calls_after w k (Detach s) low h = done_so w k (activity.Frees s) h
calls_after w k (Free s) low h = freed_so (freed w s) k (freeing_target (caller_at w k).doing s) h
calls_after w k (Rescan s only) low h =
    stacked (doing w k activity.Scans) k (rescan_frame w k s only ∷ (caller_at (doing w k activity.Scans) k).stack) (done_so w k activity.Scans h) (tt, each_of (doing w k activity.Scans) k (done_so w k activity.Scans h))
calls_after w k (BeginPower what s) low h = done_so w k (activity.Power what s) h
calls_after w k (Sleep s) low h = h
calls_after w k (Wake s) low h = h
calls_after w k (Unplug x None) low h = over_so w k h
calls_after w k (Unplug x (Some s)) low h = done_so w k (activity.Frees s) h
calls_after w k d low h = over_so w k h

each_beginning : {A : Type 0} (scripts : List A) → AllByRecursion (λ (c : Caller). Each c.stack) (map (λ script. beginning []) scripts)
each_beginning [] = tt
each_beginning (s ∷ ss) = (tt, each_beginning ss)

pub calls_first : (s : Setup) → CallsDevices (opening s)
unfolding opening
calls_first s = ((tt, tt), each_beginning s.scripts)
