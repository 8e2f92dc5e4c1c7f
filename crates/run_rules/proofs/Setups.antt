-- No event changes what a run goes by: its tables, its machine and its scripts.
use Rattle.std.proofs.Common.{◌≡◌, ℕ, Bool, true, false, Option, Some, None, List, [], ◌∷◌, refl, ap, sym, ◌∙◌}
use Rattle.std.specs.Prelude.{is_some, if◌then◌else◌}
use Rattle.run_rules.specs.declared.event.Event.{Event}
use Rattle.run_rules.specs.World.{World, has_ended, policy_of, offered_by, caller_at}
use Rattle.run_rules.specs.declared.world.Arrival.{Arrival}
use Rattle.run_rules.specs.declared.world.Placing.{Placing}
use Rattle.run_rules.specs.declared.world.Placing.TheVariants.{Nowhere, Queued, PutOff, Pushed}
use Rattle.run_rules.specs.declared.deed.Deed.{Deed}
use Rattle.run_rules.specs.declared.deed.Deed.TheVariants.{Search, EndScan, BeginInterrupts, Finalise, EndCaller, Drop, Refuse, Open, Close, Start, Done, Detach, Free, Rescan, BeginPower, Sleep, Wake, EndPower, Plug, Unplug, Tell}
use Rattle.run_rules.specs.After.{place_finaliser, place_scan, finaliser_placing, scan_placing, finaliser_placed, scan_placed, listed, attached, arrived, released, show_spot, list_moved, finaliser_done, freeing_target, freed, over, after, with_stack, moved_top}
use Rattle.run_rules.specs.Run.{Run}

finaliser_setup : (x : Placing) (w : World) (k s : ℕ) → (place_finaliser x w k s).setup ≡ w.setup
finaliser_setup Nowhere w k s = refl
finaliser_setup Queued w k s = refl
finaliser_setup PutOff w k s = refl
finaliser_setup Pushed w k s = refl

scan_setup : (x : Placing) (w : World) (k parent s : ℕ) → (place_scan x w k parent s).setup ≡ w.setup
scan_setup Nowhere w k parent s = refl
scan_setup Queued w k parent s = refl
scan_setup PutOff w k parent s = refl
scan_setup Pushed w k parent s = refl

attached_setup : (w : World) (k : ℕ) (a : Arrival) (may_defer : Bool) → (attached w k a may_defer).setup ≡ w.setup
unfolding attached scan_placed finaliser_placed listed
attached_setup w k a may_defer =
    scan_setup (scan_placing (policy_of w.setup a.row) (offered_by w.setup a.row) (finaliser_placed (policy_of w.setup a.row) (listed w a) k w.next).interrupts_on may_defer)
    (finaliser_placed (policy_of w.setup a.row) (listed w a) k w.next) k a.parent w.next
    ∙ finaliser_setup (finaliser_placing (policy_of w.setup a.row) (has_ended (listed w a) 0)) (listed w a) k w.next

arrived_setup : (w : World) (k : ℕ) (got : Option Arrival) (may_defer : Bool) → (arrived w k got may_defer).setup ≡ w.setup
arrived_setup w k None may_defer = refl
arrived_setup w k (Some a) may_defer = attached_setup w k a may_defer

shown_setup : (w : World) (x : Option ℕ) → (show_spot w x).setup ≡ w.setup
shown_setup w None = refl
shown_setup w (Some x) = refl

moved_setup : (w : World) (place : Option ℕ) (anew answer : Bool) → (list_moved w place anew answer).setup ≡ w.setup
moved_setup w None anew answer = refl
moved_setup w (Some place) anew answer = refl

done_setup : (w : World) (k : ℕ) (place : Option ℕ) (answer : Bool) → (finaliser_done w k place answer).setup ≡ w.setup
done_setup w k (Some place) answer = refl
done_setup w k None true = refl
done_setup w k None false = refl

freed_setup : (w : World) (k s : ℕ) (b : Bool) → (if b then over (freed w s) k else freed w s).setup ≡ w.setup
freed_setup w k s true = refl
freed_setup w k s false = refl

-- nor does a deed
pub after_setup : (w : World) (k : ℕ) (d : Deed) → (after w k d).setup ≡ w.setup
unfolding after released
after_setup w k (Search p spot to got) = arrived_setup (with_stack w k (moved_top to (caller_at w k).stack)) k got true
after_setup w k (EndScan p) = refl
after_setup w k BeginInterrupts = refl
after_setup w k (Finalise s spot got listed anew) =
    done_setup (list_moved (arrived (show_spot w spot) k got false) listed anew (is_some spot)) k listed (is_some spot)
    ∙ moved_setup (arrived (show_spot w spot) k got false) listed anew (is_some spot)
    ∙ arrived_setup (show_spot w spot) k got false
    ∙ shown_setup w spot
after_setup w k EndCaller = refl
after_setup w k (Drop s) = refl
after_setup w k (Refuse why) = refl
after_setup w k (Open s sole) = refl
after_setup w k (Close s) = refl
after_setup w k (Start ticket) = refl
after_setup w k (Done ticket) = refl
after_setup w k (Detach s) = refl
after_setup w k (Free s) = freed_setup w k s (freeing_target (caller_at w k).doing s)
after_setup w k (Rescan s only) = refl
after_setup w k (BeginPower kind s) = refl
after_setup w k (Sleep s) = refl
after_setup w k (Wake s) = refl
after_setup w k (EndPower end) = refl
after_setup w k (Plug x) = refl
after_setup w k (Unplug x None) = refl
after_setup w k (Unplug x (Some s)) = refl
after_setup w k Tell = refl

-- so none of a run does
pub run_setup : (w : World) (h : List Event) (v : World) → Run w h v → v.setup ≡ w.setup
run_setup w [] v run = ap (λ (x : World). x.setup) (sym run)
run_setup w (e ∷ h) v run = run_setup run.0 h v run.2 ∙ ap (λ (x : World). x.setup) run.1.world ∙ after_setup w e.caller run.1.deed
