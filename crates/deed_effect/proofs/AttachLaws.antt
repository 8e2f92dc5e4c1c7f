-- What a device that comes adds is what the world after it has.
use Rattle.std.proofs.Common.{◌≡◌, ◌<◌, ℕ, Bool, List, [], ◌∷◌, ◌++◌, length, slice_set, refl, sym, ◌∙◌, ap}
use Rattle.run_rules.specs.declared.world.Arrival.{Arrival}
use Rattle.run_rules.specs.declared.world.Frame.TheVariants.{Finaliser}
use Rattle.run_rules.specs.declared.world.Placing.{Placing}
use Rattle.run_rules.specs.declared.world.Placing.TheVariants.{Nowhere, Queued, PutOff, Pushed}
use Rattle.run_rules.specs.World.{World, Caller, caller_at, has_ended, nobody, scan_of, policy_of, offered_by}
use Rattle.run_rules.specs.After.{attached, listed, finaliser_placed, scan_placed, finaliser_placing, scan_placing, place_finaliser, place_scan}
use Rattle.run_sound.proofs.Callers.{caller_here}
use Rattle.run_world.specs.Arrivals.{called_too, finalised_too, put_off_too, searched_too}
use Rattle.run_world.proofs.CallerLaws.{pushed_is, set_again, set_own}

-- the world with this caller, these finalisers and what was put off
abbrev finalised : World → ℕ → Placing → ℕ → World
finalised w k f s = record w { finalisers = called_too f w.finalisers s; callers = slice_set w.callers k (finalised_too f (caller_at w k) s) }

abbrev searched : World → ℕ → Placing → ℕ → ℕ → World
searched w k p parent s = record w { deferred = put_off_too p w.deferred parent s; callers = slice_set w.callers k (searched_too p (caller_at w k) s) }

same_callers : (w : World) (k : ℕ) → w ≡ record w { callers = slice_set w.callers k (caller_at w k) }
same_callers w k = ap (λ (cs : List Caller). record w { callers = cs }) (sym (set_own w.callers k nobody))

finaliser_is : (w : World) (k : ℕ) (f : Placing) (s : ℕ) → place_finaliser f w k s ≡ finalised w k f s
finaliser_is w k Nowhere s = same_callers w k
finaliser_is w k Queued s = same_callers (record w { finalisers = w.finalisers ++ s ∷ [] }) k
finaliser_is w k PutOff s = same_callers w k
finaliser_is w k Pushed s = pushed_is w k (Finaliser s)

search_is : (w : World) (k : ℕ) (p : Placing) (parent s : ℕ) → place_scan p w k parent s ≡ searched w k p parent s
search_is w k Nowhere parent s = same_callers w k
search_is w k Queued parent s = same_callers (record w { deferred = put_off_too Queued w.deferred parent s }) k
search_is w k PutOff parent s = same_callers (record w { deferred = put_off_too PutOff w.deferred parent s }) k
search_is w k Pushed parent s = pushed_is w k (scan_of s)

-- both, one after the other
both_are : (w : World) (k : ℕ) (f p : Placing) (parent s : ℕ) → k < length w.callers
    → place_scan p (place_finaliser f w k s) k parent s
    ≡ record w {
      finalisers = called_too f w.finalisers s;
      deferred = put_off_too p w.deferred parent s;
      callers = slice_set w.callers k (searched_too p (finalised_too f (caller_at w k) s) s);
    }
both_are w k f p parent s lt =
    let one : Caller = finalised_too f (caller_at w k) s in
    let m : World = record w { finalisers = called_too f w.finalisers s } in
    ap (λ (v : World). place_scan p v k parent s) (finaliser_is w k f s) ∙ search_is (finalised w k f s) k p parent s
    ∙ ap (λ (c : Caller). record m { deferred = put_off_too p w.deferred parent s; callers = slice_set (slice_set w.callers k one) k (searched_too p c s) }) (caller_here m k one lt)
    ∙ ap (λ (cs : List Caller). record m { deferred = put_off_too p w.deferred parent s; callers = cs }) (set_again w.callers k one (searched_too p one s))

phase_stays : (w : World) (k : ℕ) (f : Placing) (s : ℕ) → (place_finaliser f w k s).interrupts_on ≡ w.interrupts_on
phase_stays w k Nowhere s = refl
phase_stays w k Queued s = refl
phase_stays w k PutOff s = refl
phase_stays w k Pushed s = refl

-- the world once a device has come
pub attached_is : (w v : World) (k : ℕ) (a : Arrival) (may_defer : Bool) (f p : Placing) → k < length w.callers
    → f ≡ finaliser_placing (policy_of w.setup a.row) (has_ended w 0)
    → p ≡ scan_placing (policy_of w.setup a.row) (offered_by w.setup a.row) w.interrupts_on may_defer
    → v ≡ record (listed w a) {
      finalisers = called_too f w.finalisers w.next;
      deferred = put_off_too p w.deferred a.parent w.next;
      callers = slice_set w.callers k (searched_too p (finalised_too f (caller_at w k) w.next) w.next);
    }
    → v ≡ attached w k a may_defer
unfolding attached listed finaliser_placed scan_placed
attached_is w v k a may_defer f p lt finaliser scan is =
    is ∙ sym (both_are (listed w a) k f p a.parent w.next lt)
    ∙ ap (λ (x : Placing). place_scan x (place_finaliser f (listed w a) k w.next) k a.parent w.next) scan
    ∙ ap (λ (x : Placing). place_scan (scan_placing (policy_of w.setup a.row) (offered_by w.setup a.row) w.interrupts_on may_defer) (place_finaliser x (listed w a) k w.next) k a.parent w.next) finaliser
    ∙ sym (ap (λ (b : Bool). place_scan (scan_placing (policy_of w.setup a.row) (offered_by w.setup a.row) b may_defer)
    (place_finaliser (finaliser_placing (policy_of w.setup a.row) (has_ended w 0)) (listed w a) k w.next) k a.parent w.next)
    (phase_stays (listed w a) k (finaliser_placing (policy_of w.setup a.row) (has_ended w 0)) w.next))
