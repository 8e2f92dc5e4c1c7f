-- Which devices live after a turn of a scan, whatever the policies.
use Rattle.std.proofs.Common.{◌≡◌, ℕ, Bool, true, List, [], ◌∷◌, ◌++◌, Some, None, refl, ◌∙◌}
use Rattle.cf_types.specs.declared.machine.Policy.{Policy}
use Rattle.run_rules.specs.declared.world.Position.{Position}
use Rattle.run_rules.specs.World.{World, has_ended, policy_of, offered_by, caller_at}
use Rattle.run_rules.specs.declared.deed.Deed.TheVariants.{Search, EndScan, BeginInterrupts, EndCaller}
use Rattle.run_rules.specs.declared.world.Arrival.{Arrival}
use Rattle.run_rules.specs.After.{after, released, attached, listed, finaliser_placed, scan_placed, new_device, finaliser_placing, place_finaliser, scan_placing, place_scan, with_stack, moved_top}
use Rattle.run_rules.specs.declared.world.Placing.{Placing}
use Rattle.run_rules.specs.declared.world.Placing.TheVariants.{Nowhere, Queued, PutOff, Pushed}

place_finaliser_live : (c : Placing) (w : World) (k s : ℕ) → (place_finaliser c w k s).live ≡ w.live
place_finaliser_live Nowhere w k s = refl
place_finaliser_live Queued w k s = refl
place_finaliser_live PutOff w k s = refl
place_finaliser_live Pushed w k s = refl

place_scan_live : (c : Placing) (w : World) (k parent s : ℕ) → (place_scan c w k parent s).live ≡ w.live
place_scan_live Nowhere w k parent s = refl
place_scan_live Queued w k parent s = refl
place_scan_live PutOff w k parent s = refl
place_scan_live Pushed w k parent s = refl

finaliser_live : (p : Policy) (w : World) (k s : ℕ) → (finaliser_placed p w k s).live ≡ w.live
unfolding finaliser_placed
finaliser_live p w k s = place_finaliser_live (finaliser_placing p (has_ended w 0)) w k s

scan_live : (p : Policy) (offered : List ℕ) (w : World) (k parent s : ℕ) (b : Bool) → (scan_placed p offered w k parent s b).live ≡ w.live
unfolding scan_placed
scan_live p offered w k parent s b = place_scan_live (scan_placing p offered w.interrupts_on b) w k parent s

pub attached_live : (w : World) (k : ℕ) (a : Arrival) (b : Bool) → (attached w k a b).live ≡ w.live ++ new_device w a ∷ []
unfolding attached listed
attached_live w k a b =
    let p : Policy = policy_of w.setup a.row in
    let come : World = listed w a in
    scan_live p (offered_by w.setup a.row) (finaliser_placed p come k w.next) k a.parent w.next b ∙ finaliser_live p come k w.next

pub live_attach : (w : World) (k p spot : ℕ) (to : Position) (a : Arrival) → (after w k (Search p spot to (Some a))).live ≡ w.live ++ new_device w a ∷ []
unfolding after
live_attach w k p spot to a = attached_live (with_stack w k (moved_top to (caller_at w k).stack)) k a true

pub live_pass : (w : World) (k p spot : ℕ) (to : Position) → (after w k (Search p spot to None)).live ≡ w.live
unfolding after
live_pass w k p spot to = refl

pub live_scan : (w : World) (k p : ℕ) → (after w k (EndScan p)).live ≡ w.live
unfolding after released
live_scan w k p = refl

pub live_phase : (w : World) (k : ℕ) → (after w k BeginInterrupts).live ≡ w.live
unfolding after released
live_phase w k = refl

pub live_end : (w : World) (k : ℕ) → (after w k EndCaller).live ≡ w.live
unfolding after
live_end w k = refl
