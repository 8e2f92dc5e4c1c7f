-- The slots after each deed.
use Rattle.std.proofs.Common.{◌≡◌, ◌≢◌, ◌&&◌, ◌||◌, ◌==◌, ℕ, Bool, true, false, not, cond, List, map, length, Option, Some, None, option_map, refl}
use Rattle.std.specs.Prelude.{IsTrue, IfSome}
use Rattle.std.specs.List.{AllByRecursion}
use Rattle.std.specs.Option.{option_map_or}
use Rattle.cf_types.specs.declared.machine.Ticket.{Ticket}
use Rattle.run_rules.specs.declared.world.Dev.{Dev}
use Rattle.run_rules.specs.World.{World, device_on, is_condemned, is_held, is_pinned, is_under, policy_of}
use Rattle.run_rules.specs.After.{after, released, with_sleep}
use Rattle.run_rules.specs.declared.deed.Deed.{Deed}
use Rattle.run_rules.specs.declared.deed.Deed.TheVariants.{Search, EndScan, BeginInterrupts, Finalise, EndCaller, Drop, Refuse, Open, Close, Start, Done, Detach, Free, Rescan, BeginPower, Sleep, Wake, EndPower, Plug, Unplug, Tell}
use Rattle.run_rules.specs.declared.deed.Choice.TheVariants.{Does}
use Rattle.run_rules.specs.Next.{hindered, is_hindrance, next}
use Rattle.run_rules.proofs.Devices.{all_imp, none_of, or_false}
use Rattle.run_sound.proofs.Trees.{none_found}
use Rattle.run_sound.proofs.Reasons.{has_command_reason}
use Rattle.ref_ledger.specs.declared.state.SlotState.TheVariants as slot
use Rattle.deed_effect.specs.Agreement.{state_at, slots_of}
use Rattle.deed_effect.specs.SlotDeeds.{SlotsLag, condemned_by}
use Rattle.deed_effect.proofs.Agree.{map_below_same}
use Rattle.run_world.specs.Arrivals.{MayArrive}
use Rattle.run_world.specs.Arrivals.{got_of}
use Rattle.deed_effect.specs.Publishing.{published}
use Rattle.deed_effect.proofs.SlotLaws.{marked_on}
use Rattle.deed_effect.proofs.SlotSteps.{call_slots, search_slots}

-- ---- nothing stands in the way of what is detached, so none of it is condemned

unhindered : (under driver pinned gone held : Bool) → (under && (driver || pinned || gone || held)) ≡ false → under ≡ true → gone ≡ false
unhindered true driver pinned gone held h e =
    (or_false (driver || pinned) gone (or_false (driver || pinned || gone) held h).0).1
unhindered false driver pinned gone held h e = absurd cc

spared : (w : World) (s k : ℕ) (forced : Bool) → hindered w s k forced ≡ None → AllByRecursion (λ d. IsTrue (is_under w.live s d.serial) → is_condemned d ≡ false) w.live
unfolding hindered
spared w s k forced e =
    all_imp (λ d. is_hindrance w s k forced d ≡ false) (λ d. IsTrue (is_under w.live s d.serial) → is_condemned d ≡ false)
    (λ d h below. unhindered (is_under w.live s d.serial) (not forced && (policy_of w.setup d.row).nodetach) (is_pinned w d.serial) (is_condemned d) (is_held w k d.serial) h below)
    w.live (none_of (is_hindrance w s k forced) w.live (none_found (is_hindrance w s k forced) w.live e))

-- ---- devices that sleep or wake keep their slots

slept_spot : (s : ℕ) (asleep : Bool) (d : Dev) → (with_sleep s asleep d).spot ≡ d.spot
slept_spot s asleep d = cases (d.serial == s)
  where
    cases : (b : Bool) → (cond b (record d { asleep = asleep }) d).spot ≡ d.spot
    cases true = refl
    cases false = refl

slept_alike : (s : ℕ) (asleep : Bool) (d : Dev) → is_condemned (with_sleep s asleep d) ≡ is_condemned d
slept_alike s asleep d = cases (d.serial == s)
  where
    cases : (b : Bool) → is_condemned (cond b (record d { asleep = asleep }) d) ≡ is_condemned d
    cases true = refl
    cases false = refl

slept_state : (live : List Dev) (s : ℕ) (asleep : Bool) (x : ℕ) → state_at live x ≡ state_at (map (with_sleep s asleep) live) x
slept_state live s asleep x = rw (marked_on (with_sleep s asleep) (slept_spot s asleep) live x) (cases (device_on live x))
  where
    cases : (o : Option Dev) → option_map_or (λ d. cond (is_condemned d) slot.Condemned slot.Live) o slot.Free ≡ option_map_or (λ d. cond (is_condemned d) slot.Condemned slot.Live) (option_map (with_sleep s asleep) o) slot.Free
    cases None = refl
    cases (Some d) = rw (slept_alike s asleep d) refl

-- ---- what is left to do to the slots after a deed, once the slot of what came is published

pub slots_lag : (w : World) (k : ℕ) (d : Deed) → next w k ≡ Does d → IfSome (got_of d) (MayArrive w.setup w.live) → ((s : ℕ) → d ≢ Free s)
    → SlotsLag w.setup (after w k d).live (condemned_by d) (published (got_of d) (slots_of w))
unfolding after released slots_of
slots_lag w k (Detach s) e may other = record {
  caller = k;
  were = w.live;
  marked = refl;
  spared = spared w s k false (has_command_reason w k (Detach s) e).free;
  agree = refl;
}
slots_lag w k (Unplug x (Some s)) e may other = record {
  caller = k;
  were = w.live;
  marked = refl;
  spared = spared w s k true (has_command_reason w k (Unplug x (Some s)) e).free;
  agree = refl;
}
slots_lag w k (Search p spot to got) e may other = search_slots w k p spot to got may
slots_lag w k (Finalise s shown got listed anew) e may other = call_slots w k s shown got listed anew may
slots_lag w k (Sleep s) e may other = map_below_same (state_at w.live) (state_at (map (with_sleep s true) w.live)) (length w.setup.machine.spots) (λ y lt. slept_state w.live s true y)
slots_lag w k (Wake s) e may other = map_below_same (state_at w.live) (state_at (map (with_sleep s false) w.live)) (length w.setup.machine.spots) (λ y lt. slept_state w.live s false y)
slots_lag w k (Free s) e may other = absurd (other s refl)
slots_lag w k (Unplug x None) e may other = refl
slots_lag w k (EndScan p) e may other = refl
slots_lag w k BeginInterrupts e may other = refl
slots_lag w k EndCaller e may other = refl
slots_lag w k (Drop s) e may other = refl
slots_lag w k (Refuse why) e may other = refl
slots_lag w k (Open s sole) e may other = refl
slots_lag w k (Close s) e may other = refl
slots_lag w k (Start ticket) e may other = refl
slots_lag w k (Done ticket) e may other = refl
slots_lag w k (Rescan s only) e may other = refl
slots_lag w k (BeginPower kind s) e may other = refl
slots_lag w k (EndPower end) e may other = refl
slots_lag w k (Plug x) e may other = refl
slots_lag w k Tell e may other = refl

-- the end of a transfer leaves the slots
pub slots_done : (w : World) (k : ℕ) (ticket : Ticket) → slots_of (after w k (Done ticket)) ≡ slots_of w
unfolding after slots_of
slots_done w k ticket = refl
