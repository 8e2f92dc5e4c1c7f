-- What is known of a deed.
use Rattle.std.proofs.Common.{◌≡◌, ◌<◌, ◌||◌, ◌==◌, ℕ, zero, suc, Bool, true, false, List, [], ◌∷◌, length, Option, Some, None, subst, arith}
use Rattle.std.specs.Prelude.{IsTrue, IfSome}
use Rattle.run_rules.specs.declared.world.Setup.{Setup}
use Rattle.run_rules.specs.declared.world.Dev.{Dev}
use Rattle.run_rules.specs.declared.world.Arrival.{Arrival}
use Rattle.std.specs.List.{AllByRecursion, slice_index_or}
use Rattle.std.proofs.lemmas.Bool.Decides.{nat_tests}
use Rattle.run_rules.specs.declared.world.Frame.{Frame}
use Rattle.run_rules.specs.declared.world.Frame.TheVariants.{Finaliser}
use Rattle.run_rules.specs.Sound.{Sound}
use Rattle.run_rules.specs.World.{World, Caller, caller_at, has_ended, is_live, nobody}
use Rattle.run_rules.specs.declared.deed.Deed.{Deed}
use Rattle.run_rules.specs.declared.deed.Deed.TheVariants.{Search, EndScan, BeginInterrupts, Finalise, EndCaller, Drop, Refuse, Open, Close, Start, Done, Detach, Free, Rescan, BeginPower, Sleep, Wake, EndPower, Plug, Unplug, Tell}
use Rattle.run_rules.specs.declared.deed.Choice.TheVariants.{Does}
use Rattle.run_rules.specs.Next.{next}
use Rattle.run_rules.specs.After.{show_spot}
use Rattle.run_sound.specs.Calls.{CallsDevices, IsOfDevice}
use Rattle.run_sound.proofs.Coming.{MayCome, IsCalled}
use Rattle.run_sound.specs.Kept.{MayRun, Kept}
use Rattle.run_sound.proofs.Arrivals.{search_comes, finalise_comes, none_shown, top_known}
use Rattle.run_sound.proofs.Callers.{all_or, not_ended}
use Rattle.run_world.specs.Arrivals.{MayArrive}
use Rattle.run_world.specs.Arrivals.{got_of}

arrives : (s : Setup) (live : List Dev) (hidden : List ℕ) (p : ℕ) (a : Arrival) → MayCome s live hidden p a → MayArrive s live a
arrives s live hidden p a may = record { known = rw may.parent may.known; unit = may.unit; bare = may.bare; spot = may.spot; row = may.row }

-- what comes by a deed may be listed
pub deed_arrives : (w : World) (k : ℕ) (d : Deed) → MayRun w.setup → Kept w → next w k ≡ Does d → IfSome (got_of d) (MayArrive w.setup w.live)
deed_arrives w k (Search p spot to None) may kept chosen = tt
deed_arrives w k (Search p spot to (Some a)) may kept chosen = arrives w.setup w.live w.hidden p a (search_comes w k p spot to a may kept chosen)
deed_arrives w k (Finalise s shown None listed anew) may kept chosen = tt
deed_arrives w k (Finalise s None (Some a) listed anew) may kept chosen = absurd (none_shown w k s a listed anew chosen)
deed_arrives w k (Finalise s (Some x) (Some a) listed anew) may kept chosen =
    arrives w.setup w.live (show_spot w (Some x)).hidden s a (finalise_comes w k s x a listed anew may kept chosen)
deed_arrives w k d may kept chosen = tt

-- ---- the finaliser that is called

at_live : (live : List Dev) (xs : List ℕ) (i : ℕ) → i < length xs → AllByRecursion (λ s. IsTrue (is_live live s)) xs → IsTrue (is_live live (slice_index_or xs i 0))
at_live live [] i lt h = absurd (omega arith)
at_live live (x ∷ xs) zero lt h = h.0
at_live live (x ∷ xs) (suc i) lt h = at_live live xs i (omega arith) h.1

known_live : (b live : Bool) → b ≡ false → (b || live) ≡ true → live ≡ true
known_live true live e h = absurd cc
known_live false live e h = h

not_root : (s : ℕ) → 0 < s → (s == 0) ≡ false
not_root s low = grind (arith, nat_tests)

pub framed_live : (w : World) (k s : ℕ) (rest : List Frame) → Sound w → CallsDevices w → (caller_at w k).stack ≡ Finaliser s ∷ rest → IsTrue (is_live w.live s)
framed_live w k s rest sound calls e =
    let each = all_or (λ (c : Caller). AllByRecursion IsOfDevice c.stack) w.callers k nobody calls tt in
    let low : 0 < s = (subst (λ (fs : List Frame). AllByRecursion IsOfDevice fs) e each).0 in
    known_live (s == 0) (is_live w.live s) (not_root s low) (top_known w k (Finaliser s) rest sound e)

pub called_live : (w : World) (s : ℕ) (listed : Option ℕ) (anew : Bool) → Kept w → CallsDevices w → has_ended w 0 ≡ false → IsCalled w 0 s listed anew → IsTrue (is_live w.live s)
called_live w s None anew kept calls goes called = framed_live w 0 s called.0 kept.sound calls called.1
called_live w s (Some place) false kept calls goes called =
    rw called.5 (at_live w.live w.finalisers place (omega (arith, called.3, called.4)) (kept.sound.boot (not_ended w 0 goes)).finalisers)
called_live w s (Some place) true kept calls goes called =
    rw called.5 (at_live w.live w.finalisers 0 ((kept.ranges.list goes).some called.6) (kept.sound.boot (not_ended w 0 goes)).finalisers)
