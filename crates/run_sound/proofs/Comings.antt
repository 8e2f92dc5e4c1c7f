-- What a device that comes changes, whatever its policies: the parts of the world beside the frames and what was put off.
use Rattle.std.proofs.Common.{◌≡◌, ◌≤◌, ℕ, ◌+◌, Bool, List, [], ◌∷◌, ◌++◌, length, refl, ◌∙◌, arith, length-append}
use Rattle.cf_types.specs.declared.machine.Policy.{Policy}
use Rattle.run_rules.specs.declared.world.Arrival.{Arrival}
use Rattle.run_rules.specs.declared.world.Placing.{Placing}
use Rattle.run_rules.specs.declared.world.Placing.TheVariants.{Nowhere, Queued, PutOff, Pushed}
use Rattle.run_rules.specs.declared.world.Deferred.{Deferred}
use Rattle.run_rules.specs.World.{World, Caller, has_ended, policy_of, offered_by}
use Rattle.run_rules.specs.After.{attached, finaliser_placed, finaliser_placing, listed, new_device, place_finaliser, place_scan, scan_placed, scan_placing, with_caller}
use Rattle.run_sound.proofs.Callers.{callers_kept}

-- the work of a device is put somewhere: all else stays, and the boot's list grows by one at most
pub record Places (w v : World) : Type 0 where
  pub setup : v.setup ≡ w.setup
  pub live : v.live ≡ w.live
  pub next : v.next ≡ w.next
  pub absent : v.absent ≡ w.absent
  pub hidden : v.hidden ≡ w.hidden
  pub interrupts_on : v.interrupts_on ≡ w.interrupts_on
  pub place : v.next_finaliser ≡ w.next_finaliser
  pub pass_repeats : v.pass_repeats ≡ w.pass_repeats
  pub no_less : length w.finalisers ≤ length v.finalisers
  pub one_more : length v.finalisers ≤ length w.finalisers + 1
  pub callers : length v.callers ≡ length w.callers

other_places : (w : World) (deferred : List Deferred) (finalisers : List ℕ) (callers : List Caller) → length w.finalisers ≤ length finalisers → length finalisers ≤ length w.finalisers + 1
    → length callers ≡ length w.callers → Places w (record w { deferred = deferred; finalisers = finalisers; callers = callers })
other_places w deferred finalisers callers no_less one_more same = record {
  setup = refl;
  live = refl;
  next = refl;
  absent = refl;
  hidden = refl;
  interrupts_on = refl;
  place = refl;
  pass_repeats = refl;
  no_less = no_less;
  one_more = one_more;
  callers = same;
}

same_places : (w : World) → Places w w
same_places w = other_places w w.deferred w.finalisers w.callers (omega arith) (omega arith) refl

called_places : (w : World) (s : ℕ) → Places w (record w { finalisers = w.finalisers ++ s ∷ [] })
called_places w s =
    let more = length-append w.finalisers (s ∷ []) in
    other_places w w.deferred (w.finalisers ++ s ∷ []) w.callers (omega (arith, more)) (omega (arith, more)) refl

frame_places : (w : World) (k : ℕ) (c : Caller) → Places w (with_caller w k c)
frame_places w k c = other_places w w.deferred w.finalisers (with_caller w k c).callers (omega arith) (omega arith) (callers_kept w k c)

put_off_places : (w : World) (e : Deferred) → Places w (record w { deferred = w.deferred ++ e ∷ [] })
put_off_places w e = other_places w (w.deferred ++ e ∷ []) w.finalisers w.callers (omega arith) (omega arith) refl

pub finaliser_places : (c : Placing) (w : World) (k s : ℕ) → Places w (place_finaliser c w k s)
finaliser_places Nowhere w k s = same_places w
finaliser_places Queued w k s = called_places w s
finaliser_places PutOff w k s = same_places w
finaliser_places Pushed w k s = frame_places w k _

-- its scan leaves the boot's list as it is
pub record PlacesScan (w v : World) : Type 0 where
  pub places : Places w v
  pub finalisers : v.finalisers ≡ w.finalisers

pub scan_places : (c : Placing) (w : World) (k parent s : ℕ) → PlacesScan w (place_scan c w k parent s)
scan_places Nowhere w k parent s = record { places = same_places w; finalisers = refl }
scan_places Queued w k parent s = record { places = put_off_places w _; finalisers = refl }
scan_places PutOff w k parent s = record { places = put_off_places w _; finalisers = refl }
scan_places Pushed w k parent s = record { places = frame_places w k _; finalisers = refl }

-- ---- the device itself

pub record Comes (w v : World) (a : Arrival) : Type 0 where
  pub setup : v.setup ≡ w.setup
  pub live : v.live ≡ w.live ++ new_device w a ∷ []
  pub next : v.next ≡ w.next + 1
  pub absent : v.absent ≡ w.absent
  pub hidden : v.hidden ≡ w.hidden
  pub interrupts_on : v.interrupts_on ≡ w.interrupts_on
  pub place : v.next_finaliser ≡ w.next_finaliser
  pub pass_repeats : v.pass_repeats ≡ w.pass_repeats
  pub no_less : length w.finalisers ≤ length v.finalisers
  pub one_more : length v.finalisers ≤ length w.finalisers + 1
  pub callers : length v.callers ≡ length w.callers

come_placed : (w u v : World) (a : Arrival) → Places (listed w a) u → PlacesScan u v → Comes w v a
unfolding listed
come_placed w u v a f s = record {
  setup = s.places.setup ∙ f.setup;
  live = s.places.live ∙ f.live;
  next = s.places.next ∙ f.next;
  absent = s.places.absent ∙ f.absent;
  hidden = s.places.hidden ∙ f.hidden;
  interrupts_on = s.places.interrupts_on ∙ f.interrupts_on;
  place = s.places.place ∙ f.place;
  pass_repeats = s.places.pass_repeats ∙ f.pass_repeats;
  no_less = rw s.finalisers f.no_less;
  one_more = rw s.finalisers f.one_more;
  callers = s.places.callers ∙ f.callers;
}

pub attached_comes : (w : World) (k : ℕ) (a : Arrival) (may_defer : Bool) → Comes w (attached w k a may_defer) a
unfolding attached scan_placed finaliser_placed
attached_comes w k a may_defer =
    let p : Policy = policy_of w.setup a.row in
    let u : World = place_finaliser (finaliser_placing p (has_ended (listed w a) 0)) (listed w a) k w.next in
    come_placed w u _ a (finaliser_places (finaliser_placing p (has_ended (listed w a) 0)) (listed w a) k w.next)
    (scan_places (scan_placing p (offered_by w.setup a.row) u.interrupts_on may_defer) u k a.parent w.next)
