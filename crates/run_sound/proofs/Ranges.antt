-- A deed keeps a world in its ranges.
use Rattle.std.proofs.Common.{◌≡◌, ◌<◌, ◌≤◌, ℕ, Bool, true, false, List, [], ◌∷◌, ◌++◌, length, Option, Some, None, refl, ◌∙◌, ap, arith}
use Rattle.std.specs.Prelude.{⊤, is_some}
use Rattle.run_rules.specs.declared.world.Setup.{Setup}
use Rattle.run_rules.specs.declared.world.Dev.{Dev}
use Rattle.run_rules.specs.declared.world.Arrival.{Arrival}
use Rattle.run_rules.specs.declared.world.Position.{Position}
use Rattle.run_rules.specs.World.{World, caller_at, has_ended}
use Rattle.run_rules.specs.declared.deed.Deed.{Deed}
use Rattle.run_rules.specs.declared.deed.Deed.TheVariants.{Search, EndScan, BeginInterrupts, Finalise, EndCaller}
use Rattle.run_rules.specs.declared.deed.Choice.TheVariants.{Does}
use Rattle.run_rules.specs.Next.{next}
use Rattle.run_rules.specs.After.{after, arrived, attached, finaliser_done, list_moved, moved_top, new_device, released, show_spot, with_stack}
use Rattle.run_rules.proofs.Setups.{after_setup}
use Rattle.run_sound.proofs.Coming.{IsCall, IsCalled, MayCome}
use Rattle.run_sound.specs.Kept.{HasBootList, InRange, Kept, MayRun}
use Rattle.run_sound.specs.Left.{free_spots}
use Rattle.run_sound.proofs.Arrivals.{finalise_comes, none_shown, search_comes}
use Rattle.run_sound.proofs.Comings.{Comes, attached_comes}
use Rattle.run_sound.proofs.Reasons.{has_reason}
use Rattle.run_sound.proofs.OwnCaller.{IsBootDeed}
use Rattle.run_sound.proofs.RangesCallers.{boot_deed, boot_did, boots_after, callers_many}
use Rattle.run_sound.proofs.RangesDeeds.{ComesFit, after_serials, ranged_after, shown_fits}
use Rattle.run_sound.proofs.RangesOf.{FitsIn}
use Rattle.run_sound.proofs.Scripts.{scripts_after}
use Rattle.run_sound.proofs.Tickets.{tickets_after}
use Rattle.run_sound.proofs.Holders.{holders_after}
use Rattle.run_sound.proofs.Spots.{free_falls}

-- ---- what comes fits in

may_fit : (s : Setup) (live : List Dev) (hidden : List ℕ) (p : ℕ) (a : Arrival) (d : Dev) → MayCome s live hidden p a → d.row ≡ a.row → d.unit ≡ a.unit → d.spot ≡ a.spot → FitsIn s live hidden d
may_fit s live hidden p a d may r u x = record { row = rw r may.row; unit = rw u may.small; spot = rw x may.spot; free = rw x may.bare; seen = rw x may.seen }

pub comes_fit : (w : World) (k : ℕ) (d : Deed) → MayRun w.setup → Kept w → next w k ≡ Does d → ComesFit w d
comes_fit w k (Search p spot to None) may kept e = tt
comes_fit w k (Search p spot to (Some a)) may kept e = may_fit w.setup w.live w.hidden p a (new_device w a) (search_comes w k p spot to a may kept e) refl refl refl
comes_fit w k (Finalise s shown None listed anew) may kept e = tt
comes_fit w k (Finalise s None (Some a) listed anew) may kept e = absurd (none_shown w k s a listed anew e)
comes_fit w k (Finalise s (Some x) (Some a) listed anew) may kept e =
    may_fit w.setup w.live (show_spot w (Some x)).hidden s a (new_device w a) (finalise_comes w k s x a listed anew may kept e) refl refl refl
comes_fit w k d may kept e = tt

-- what comes to a world, if something does, fits in
abbrev FitsIf : World → Option Arrival → Type 0
FitsIf w None = ⊤
FitsIf w (Some a) = FitsIn w.setup w.live w.hidden (new_device w a)

-- ---- the boot's list

come_listed : (w v : World) (a : Arrival) → Comes w v a → FitsIn w.setup w.live w.hidden (new_device w a) → HasBootList w → HasBootList v
come_listed w v a is fits l =
    let n : ℕ = length w.setup.machine.spots in
    let fewer : free_spots (w.live ++ new_device w a ∷ []) n < free_spots w.live n = free_falls w.live (new_device w a) n fits.spot fits.free in
    record {
      few = rw (is.setup, is.live) (omega (arith, l.few, fewer, is.one_more));
      some = λ h. omega (arith, l.some (rw is.pass_repeats at h), is.no_less);
    }

shown_listed : (w : World) (shown : Option ℕ) → HasBootList w → HasBootList (show_spot w shown)
shown_listed w None l = record { few = l.few; some = l.some }
shown_listed w (Some x) l = record { few = l.few; some = l.some }

called_listed : (u : World) (k : ℕ) (listed : Option ℕ) (anew answer : Bool) → (is_some listed ≡ true → 0 < length u.finalisers) → HasBootList u
    → HasBootList (finaliser_done (list_moved u listed anew answer) k listed answer)
called_listed u k (Some place) anew answer one l = record { few = l.few; some = λ h. one refl }
called_listed u k None anew true one l = record { few = l.few; some = l.some }
called_listed u k None anew false one l = record { few = l.few; some = l.some }

-- a finaliser of the list is called: there is one
one_there : (w : World) (k s : ℕ) (listed : Option ℕ) (anew : Bool) → HasBootList w → IsCalled w k s listed anew → is_some listed ≡ true → 0 < length w.finalisers
one_there w k s None anew l called h = absurd cc
one_there w k s (Some place) false l called h = omega (arith, called.4)
one_there w k s (Some place) true l called h = l.some called.6

shown_called : (w : World) (shown : Option ℕ) → (show_spot w shown).finalisers ≡ w.finalisers
shown_called w None = refl
shown_called w (Some x) = refl

arrived_listed : (w : World) (k : ℕ) (got : Option Arrival) (may_defer : Bool) → FitsIf w got → HasBootList w → HasBootList (arrived w k got may_defer)
arrived_listed w k None may_defer fits l = l
arrived_listed w k (Some a) may_defer fits l = come_listed w (attached w k a may_defer) a (attached_comes w k a may_defer) fits l

-- no device that comes shortens the list
arrived_more : (w : World) (k : ℕ) (got : Option Arrival) (may_defer : Bool) → length w.finalisers ≤ length (arrived w k got may_defer).finalisers
arrived_more w k None may_defer = omega arith
arrived_more w k (Some a) may_defer = (attached_comes w k a may_defer).no_less

call_fits : (w : World) (s : ℕ) (shown : Option ℕ) (got : Option Arrival) (listed : Option ℕ) (anew : Bool) → ComesFit w (Finalise s shown got listed anew) → FitsIf (show_spot w shown) got
call_fits w s shown None listed anew fits = tt
call_fits w s shown (Some a) listed anew fits = shown_fits w shown a fits

turn_fits : (w : World) (p spot : ℕ) (to : Position) (got : Option Arrival) → ComesFit w (Search p spot to got) → FitsIf w got
turn_fits w p spot to None fits = tt
turn_fits w p spot to (Some a) fits = fits

listed_after : (w : World) (d : Deed) → next w 0 ≡ Does d → IsBootDeed d → ComesFit w d → HasBootList w → HasBootList (after w 0 d)
unfolding after released
listed_after w (Search p spot to got) e is fits l =
    arrived_listed (with_stack w 0 (moved_top to (caller_at w 0).stack)) 0 got true (turn_fits w p spot to got fits) (record { few = l.few; some = l.some })
listed_after w (EndScan p) e is fits l = record { few = l.few; some = l.some }
listed_after w BeginInterrupts e is fits l = record { few = l.few; some = l.some }
listed_after w (Finalise s shown got listed anew) e is fits l =
    let u : World = show_spot w shown in
    let v : World = arrived u 0 got false in
    let call : IsCall w 0 s shown got listed anew = has_reason w 0 (Finalise s shown got listed anew) e in
    called_listed v 0 listed anew (is_some shown)
    (λ h. omega (arith, one_there w 0 s listed anew l call.called h, arrived_more u 0 got false, ap length (shown_called w shown)))
    (arrived_listed u 0 got false (call_fits w s shown got listed anew fits) (shown_listed w shown l))
listed_after w EndCaller e is fits l = record { few = l.few; some = l.some }
listed_after w d e is fits l = absurd is

-- while the boot goes on after the deed
listed_then : (w : World) (k : ℕ) (d : Deed) → MayRun w.setup → Kept w → next w k ≡ Does d → has_ended (after w k d) 0 ≡ false → HasBootList (after w k d)
listed_then w k d may kept e goes =
    let did = boot_did w k d e goes in
    let same : k ≡ 0 = did.0 in
    let chosen : next w 0 ≡ Does d = rw same at e in
    rw same (listed_after w d chosen (boot_deed w d kept.ranges.callers.booting chosen) (comes_fit w 0 d may kept chosen) (kept.ranges.list did.1))

-- ---- all of it

pub ranges_after : (w : World) (k : ℕ) (d : Deed) → MayRun w.setup → Kept w → next w k ≡ Does d → InRange (after w k d)
ranges_after w k d may kept e =
    let r : InRange w = kept.ranges in
    record {
      devices = ranged_after w k d (comes_fit w k d may kept e) r.devices;
      callers = record {
        as_many = rw (after_setup w k d) (callers_many w k d ∙ r.callers.as_many);
        booting = boots_after w k d e r.callers.booting;
        placed = scripts_after w k d e r.callers.placed;
        tickets = tickets_after w k d e r.callers.tickets;
        holders = holders_after w k d r e;
      };
      list = λ goes. listed_then w k d may kept e goes;
      counted = omega (arith, r.counted, (after_serials w k d).0);
    }
