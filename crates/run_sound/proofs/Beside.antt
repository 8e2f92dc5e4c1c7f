-- What a deed leaves of the parts of a world that its callers, lists and spots have nothing to do with, and which devices live after it.
use Rattle.std.proofs.Common.{◌≡◌, ℕ, Bool, true, false, List, [], ◌∷◌, ◌++◌, Option, Some, None, refl, ◌∙◌}
use Rattle.std.specs.Prelude.{is_some}
use Rattle.run_rules.specs.declared.world.Arrival.{Arrival}
use Rattle.run_rules.specs.declared.world.Deferred.{Deferred}
use Rattle.run_rules.specs.declared.world.Placing.{Placing}
use Rattle.run_rules.specs.declared.world.Placing.TheVariants.{Nowhere, Queued, PutOff, Pushed}
use Rattle.run_rules.specs.declared.world.Position.{Position}
use Rattle.run_rules.specs.declared.deed.Deed.{Deed}
use Rattle.run_rules.specs.declared.deed.Deed.TheVariants.{Search, Finalise, Detach, Free, Sleep, Wake, Unplug}
use Rattle.run_rules.specs.World.{World, Caller, caller_at, has_ended, offered_by, policy_of}
use Rattle.run_rules.specs.After.{after, arrived, attached, finaliser_done, finaliser_placed, finaliser_placing, list_moved, listed, moved_top, new_device, place_finaliser, place_scan, released, scan_placed, scan_placing, show_spot, with_stack}

-- a part of a world that callers, lists and spots have nothing to do with
pub record IsBeside {A : Type 0} (part : World → A) : Type 0 where
  pub callers : (w : World) (cs : List Caller) → part (record w { callers = cs }) ≡ part w
  pub finalisers : (w : World) (xs : List ℕ) → part (record w { finalisers = xs }) ≡ part w
  pub deferred : (w : World) (es : List Deferred) → part (record w { deferred = es }) ≡ part w
  pub place : (w : World) (n : ℕ) (b : Bool) → part (record w { next_finaliser = n; pass_repeats = b }) ≡ part w
  pub hidden : (w : World) (xs : List ℕ) → part (record w { hidden = xs }) ≡ part w

live_beside : IsBeside (λ (w : World). w.live)
live_beside = record { callers = λ w cs. refl; finalisers = λ w xs. refl; deferred = λ w es. refl; place = λ w n b. refl; hidden = λ w xs. refl }

module _ {A : Type 0} (part : World → A) (beside : IsBeside part) where
  pub shown_part : (w : World) (shown : Option ℕ) → part (show_spot w shown) ≡ part w
  shown_part w None = refl
  shown_part w (Some x) = beside.hidden w _

  moved_part : (w : World) (place : Option ℕ) (anew answer : Bool) → part (list_moved w place anew answer) ≡ part w
  moved_part w None anew answer = refl
  moved_part w (Some n) anew answer = beside.place w _ _

  called_part : (w : World) (k : ℕ) (place : Option ℕ) (answer : Bool) → part (finaliser_done w k place answer) ≡ part w
  called_part w k (Some n) answer = refl
  called_part w k None true = refl
  called_part w k None false = beside.callers w _

  finaliser_part : (x : Placing) (w : World) (k s : ℕ) → part (place_finaliser x w k s) ≡ part w
  finaliser_part Nowhere w k s = refl
  finaliser_part Queued w k s = beside.finalisers w _
  finaliser_part PutOff w k s = refl
  finaliser_part Pushed w k s = beside.callers w _

  scan_part : (x : Placing) (w : World) (k parent s : ℕ) → part (place_scan x w k parent s) ≡ part w
  scan_part Nowhere w k parent s = refl
  scan_part Queued w k parent s = beside.deferred w _
  scan_part PutOff w k parent s = beside.deferred w _
  scan_part Pushed w k parent s = beside.callers w _

  -- a finaliser's call leaves what the arrival left
  pub finalised_part : (w : World) (k : ℕ) (place : Option ℕ) (anew answer : Bool) → part (finaliser_done (list_moved w place anew answer) k place answer) ≡ part w
  finalised_part w k place anew answer = called_part (list_moved w place anew answer) k place answer ∙ moved_part w place anew answer

  -- the work of a new device is put somewhere
  pub placed_part : (w : World) (k : ℕ) (a : Arrival) (may_defer : Bool) → part (attached w k a may_defer) ≡ part (listed w a)
  unfolding attached scan_placed finaliser_placed
  placed_part w k a may_defer =
      let called : World = place_finaliser (finaliser_placing (policy_of w.setup a.row) (has_ended (listed w a) 0)) (listed w a) k w.next in
      scan_part (scan_placing (policy_of w.setup a.row) (offered_by w.setup a.row) called.interrupts_on may_defer) called k a.parent w.next
      ∙ finaliser_part (finaliser_placing (policy_of w.setup a.row) (has_ended (listed w a) 0)) (listed w a) k w.next

  -- and so is what comes, where it leaves the part
  pub arrived_part : ((w : World) (a : Arrival) → part (listed w a) ≡ part w) → (w : World) (k : ℕ) (got : Option Arrival) (may_defer : Bool) → part (arrived w k got may_defer) ≡ part w
  arrived_part leaves w k None may_defer = refl
  arrived_part leaves w k (Some a) may_defer = placed_part w k a may_defer ∙ leaves w a

  pub search_part : ((w : World) (a : Arrival) → part (listed w a) ≡ part w) → (w : World) (k p spot : ℕ) (to : Position) (got : Option Arrival) → part (after w k (Search p spot to got)) ≡ part w
  unfolding after
  search_part leaves w k p spot to got = arrived_part leaves (with_stack w k (moved_top to (caller_at w k).stack)) k got true ∙ beside.callers w _

  pub call_part : ((w : World) (a : Arrival) → part (listed w a) ≡ part w) → (w : World) (k s : ℕ) (shown : Option ℕ) (got : Option Arrival) (place : Option ℕ) (anew : Bool)
      → part (after w k (Finalise s shown got place anew)) ≡ part w
  unfolding after
  call_part leaves w k s shown got place anew =
      finalised_part (arrived (show_spot w shown) k got false) k place anew (is_some shown) ∙ arrived_part leaves (show_spot w shown) k got false ∙ shown_part w shown

-- ---- which devices live

-- a deed with which no device comes, goes or is marked
abbrev pub leaves_devices : Deed → Bool
leaves_devices (Search p spot to (Some a)) = false
leaves_devices (Finalise s shown (Some a) place anew) = false
leaves_devices (Detach s) = false
leaves_devices (Free s) = false
leaves_devices (Sleep s) = false
leaves_devices (Wake s) = false
leaves_devices (Unplug x (Some s)) = false
leaves_devices _ = true

pub live_same : (w : World) (k : ℕ) (d : Deed) → leaves_devices d ≡ true → (after w k d).live ≡ w.live
unfolding after released
live_same w k (Search p spot to None) h = refl
live_same w k (Search p spot to (Some a)) h = absurd cc
live_same w k (Finalise s shown None place anew) h =
    finalised_part (λ (w : World). w.live) live_beside (show_spot w shown) k place anew (is_some shown) ∙ shown_part (λ (w : World). w.live) live_beside w shown
live_same w k (Finalise s shown (Some a) place anew) h = absurd cc
live_same w k (Detach s) h = absurd cc
live_same w k (Free s) h = absurd cc
live_same w k (Sleep s) h = absurd cc
live_same w k (Wake s) h = absurd cc
live_same w k (Unplug x (Some s)) h = absurd cc
live_same w k (Unplug x None) h = refl
live_same w k d h = refl

-- ---- which come

pub live_found : (w : World) (k p spot : ℕ) (to : _) (a : Arrival) → (after w k (Search p spot to (Some a))).live ≡ w.live ++ new_device w a ∷ []
unfolding after listed
live_found w k p spot to a = placed_part (λ (w : World). w.live) live_beside (with_stack w k (moved_top to (caller_at w k).stack)) k a true

pub live_shown : (w : World) (k s : ℕ) (shown : Option ℕ) (a : Arrival) (place : Option ℕ) (anew : Bool) → (after w k (Finalise s shown (Some a) place anew)).live ≡ w.live ++ new_device w a ∷ []
unfolding after listed
live_shown w k s shown a place anew =
    finalised_part (λ (w : World). w.live) live_beside (arrived (show_spot w shown) k (Some a) false) k place anew (is_some shown)
    ∙ placed_part (λ (w : World). w.live) live_beside (show_spot w shown) k a false
    ∙ cases shown
  where
    cases : (o : Option ℕ) → (listed (show_spot w o) a).live ≡ w.live ++ new_device w a ∷ []
    cases None = refl
    cases (Some x) = refl
