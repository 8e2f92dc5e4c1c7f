-- What a caller that boots, scans or ends keeps of itself in a deed of a frame and at its end.
use Rattle.std.proofs.Common.{ℕ, zero, suc, Bool, true, false, List, [], ◌∷◌, Option, Some, None, slice_index_or, slice_set}
use Rattle.std.specs.Prelude.{⊤, is_some}
use Rattle.run_rules.specs.declared.world.Frame.{Frame}
use Rattle.run_rules.specs.declared.world.Arrival.{Arrival}
use Rattle.run_rules.specs.declared.world.Position.{Position}
use Rattle.run_rules.specs.declared.world.Activity.TheVariants as activity
use Rattle.run_rules.specs.declared.world.Placing.{Placing}
use Rattle.run_rules.specs.declared.world.Placing.TheVariants.{Nowhere, Queued, PutOff, Pushed}
use Rattle.run_rules.specs.World.{World, Caller, caller_at, has_ended, nobody, offered_by, policy_of}
use Rattle.run_rules.specs.declared.deed.Deed.{Deed}
use Rattle.run_rules.specs.declared.deed.Deed.TheVariants.{Search, EndScan, BeginInterrupts, Finalise, EndCaller}
use Rattle.run_rules.specs.After.{after, arrived, attached, finaliser_done, finaliser_placed, finaliser_placing, list_moved, listed, moved_top, place_finaliser, place_scan, released, settled, scan_placed, scan_placing, show_spot, with_stack}

-- a deed of the boot: of a frame, of the boot's list, or the end
abbrev pub IsBootDeed : Deed → Type 0
IsBootDeed (Search p spot to got) = ⊤
IsBootDeed (EndScan p) = ⊤
IsBootDeed BeginInterrupts = ⊤
IsBootDeed (Finalise s shown got place anew) = ⊤
IsBootDeed EndCaller = ⊤
IsBootDeed _ = ⊥

-- a property of a caller that stays when its frames change
abbrev pub StaysStacked : (Caller → Type 0) → Type 0
StaysStacked P = (c : Caller) (stack : List Frame) → P c → P (settled (record { over = c.over; doing = c.doing; stack = stack }))

-- and when it ends
pub record Stays (P : Caller → Type 0) : Type 0 where
  pub stacked : StaysStacked P
  pub ended : (c : Caller) → P c → P (record { over = c.over; doing = activity.Ended; stack = c.stack })

-- the caller that is set, or what was there where there is none
pub own_set : (P : Caller → Type 0) (cs : List Caller) (k : ℕ) (c : Caller) → P c → P (slice_index_or cs k nobody) → P (slice_index_or (slice_set cs k c) k nobody)
own_set P [] k c new old = old
own_set P (x ∷ xs) zero c new old = new
own_set P (x ∷ xs) (suc k) c new old = own_set P xs k c new old

-- ---- its frames change

module _ (P : Caller → Type 0) (keeps : StaysStacked P) where
  abbrev Has : World → ℕ → Type 0
  Has w k = P (caller_at w k)

  own_restacked : (w : World) (k : ℕ) (stack : List Frame) → Has w k → Has (with_stack w k stack) k
  own_restacked w k stack h = own_set P w.callers k _ (keeps (caller_at w k) stack h) h

  own_finaliser : (x : Placing) (w : World) (k s : ℕ) → Has w k → Has (place_finaliser x w k s) k
  own_finaliser Nowhere w k s h = h
  own_finaliser Queued w k s h = h
  own_finaliser PutOff w k s h = h
  own_finaliser Pushed w k s h = own_restacked w k _ h

  own_scan : (x : Placing) (w : World) (k parent s : ℕ) → Has w k → Has (place_scan x w k parent s) k
  own_scan Nowhere w k parent s h = h
  own_scan Queued w k parent s h = h
  own_scan PutOff w k parent s h = h
  own_scan Pushed w k parent s h = own_restacked w k _ h

  own_arrived : (w : World) (k : ℕ) (got : Option Arrival) (may_defer : Bool) → Has w k → Has (arrived w k got may_defer) k
  unfolding attached scan_placed finaliser_placed listed
  own_arrived w k None may_defer h = h
  own_arrived w k (Some a) may_defer h =
      let come : World = listed w a in
      let called : World = place_finaliser (finaliser_placing (policy_of w.setup a.row) (has_ended come 0)) come k w.next in
      own_scan (scan_placing (policy_of w.setup a.row) (offered_by w.setup a.row) called.interrupts_on may_defer) called k a.parent w.next
      (own_finaliser (finaliser_placing (policy_of w.setup a.row) (has_ended come 0)) come k w.next h)

  own_shown : (w : World) (k : ℕ) (shown : Option ℕ) → Has w k → Has (show_spot w shown) k
  own_shown w k None h = h
  own_shown w k (Some x) h = h

  own_called : (u : World) (k : ℕ) (place : Option ℕ) (anew answer : Bool) → Has u k → Has (finaliser_done (list_moved u place anew answer) k place answer) k
  own_called u k (Some place) anew answer h = h
  own_called u k None anew true h = h
  own_called u k None anew false h = own_restacked u k _ h

  -- so it stays in each deed of a frame, and where interrupts begin
  pub own_searched : (w : World) (k p spot : ℕ) (to : Position) (got : Option Arrival) → Has w k → Has (after w k (Search p spot to got)) k
  unfolding after
  own_searched w k p spot to got h = own_arrived (with_stack w k (moved_top to (caller_at w k).stack)) k got true (own_restacked w k _ h)

  pub own_scan_over : (w : World) (k p : ℕ) → Has w k → Has (after w k (EndScan p)) k
  unfolding after released
  own_scan_over w k p h = own_restacked w k _ h

  pub own_interrupts : (w : World) (k : ℕ) → Has w k → Has (after w k BeginInterrupts) k
  unfolding after released
  own_interrupts w k h = own_restacked w k _ h

  pub own_finalised : (w : World) (k s : ℕ) (shown : Option ℕ) (got : Option Arrival) (place : Option ℕ) (anew : Bool) → Has w k → Has (after w k (Finalise s shown got place anew)) k
  unfolding after
  own_finalised w k s shown got place anew h =
      own_called (arrived (show_spot w shown) k got false) k place anew (is_some shown) (own_arrived (show_spot w shown) k got false (own_shown w k shown h))

-- ---- or it ends

module _ (P : Caller → Type 0) (stays : Stays P) where
  abbrev HasStill : World → ℕ → Type 0
  HasStill w k = P (caller_at w k)

  pub own_stack : (w : World) (k : ℕ) (stack : List Frame) → HasStill w k → HasStill (with_stack w k stack) k
  own_stack w k stack h = own_restacked P stays.stacked w k stack h

  -- so it stays in each such deed
  pub own_after : (w : World) (k : ℕ) (d : Deed) → IsBootDeed d → HasStill w k → HasStill (after w k d) k
  unfolding after
  own_after w k (Search p spot to got) is h = own_searched P stays.stacked w k p spot to got h
  own_after w k (EndScan p) is h = own_scan_over P stays.stacked w k p h
  own_after w k BeginInterrupts is h = own_interrupts P stays.stacked w k h
  own_after w k (Finalise s shown got place anew) is h = own_finalised P stays.stacked w k s shown got place anew h
  own_after w k EndCaller is h = own_set P w.callers k _ (stays.ended (caller_at w k) h) h
  own_after w k d is h = absurd is
