-- The slots agree again after a device came.
use Rattle.std.proofs.Common.{◌≡◌, ℕ, Bool, true, false, List, [], ◌∷◌, ◌++◌, map, length, Option, Some, None, is_some, refl, ◌∙◌, ap}
use Rattle.std.specs.Prelude.{IfSome}
use Rattle.cf_types.specs.Numbers.{below}
use Rattle.run_rules.specs.declared.world.Arrival.{Arrival}
use Rattle.run_rules.specs.declared.deed.Deed.TheVariants.{Search, Finalise}
use Rattle.run_rules.specs.declared.world.Dev.{Dev}
use Rattle.run_rules.specs.declared.world.Position.{Position}
use Rattle.run_rules.specs.World.{World}
use Rattle.run_rules.specs.After.{after, arrived, new_device, show_spot, list_moved, finaliser_done}
use Rattle.ref_ledger.specs.declared.state.SlotState.{SlotState}
use Rattle.run_sound.proofs.Comings.{attached_comes}
use Rattle.deed_effect.specs.Agreement.{state_at, slots_of}
use Rattle.run_world.specs.Arrivals.{MayArrive}
use Rattle.deed_effect.specs.Publishing.{SlotReady, published}
use Rattle.deed_effect.proofs.Agree.{get_map_below, state_free, slots_come}

-- the slot of a device that may be listed is free
pub slot_ready : (w : World) (got : Option Arrival) (states : List SlotState) → states ≡ slots_of w → IfSome got (MayArrive w.setup w.live) → SlotReady got states
unfolding slots_of
slot_ready w None states agree may = tt
slot_ready w (Some a) states agree may = rw agree (get_map_below (state_at w.live) (length w.setup.machine.spots) a.spot may.spot ∙ ap Some (state_free w.live a.spot may.bare))

-- ---- the live devices afterwards

-- those that were there, and what came
abbrev come : World → Option Arrival → List Dev
come w None = w.live
come w (Some a) = w.live ++ new_device w a ∷ []

arrived_live : (w : World) (k : ℕ) (got : Option Arrival) (may_defer : Bool) → (arrived w k got may_defer).live ≡ come w got
arrived_live w k None may_defer = refl
arrived_live w k (Some a) may_defer = (attached_comes w k a may_defer).live

shown_live : (w : World) (got : Option Arrival) (x : Option ℕ) → come (show_spot w x) got ≡ come w got
shown_live w None None = refl
shown_live w (Some a) None = refl
shown_live w None (Some x) = refl
shown_live w (Some a) (Some x) = refl

ended_live : (w : World) (k : ℕ) (listed : Option ℕ) (anew answer : Bool) → (finaliser_done (list_moved w listed anew answer) k listed answer).live ≡ w.live
ended_live w k None anew true = refl
ended_live w k None anew false = refl
ended_live w k (Some place) anew answer = refl

published_come : (w : World) (got : Option Arrival) → IfSome got (MayArrive w.setup w.live)
    → published got (map (state_at w.live) (below (length w.setup.machine.spots))) ≡ map (state_at (come w got)) (below (length w.setup.machine.spots))
published_come w None may = refl
published_come w (Some a) may = slots_come w.live (new_device w a) (length w.setup.machine.spots) may.spot may.bare refl

-- the live devices after a turn of a scan, and after a call of a finaliser
search_live : (w : World) (k p spot : ℕ) (to : Position) (got : Option Arrival) → (after w k (Search p spot to got)).live ≡ come w got
unfolding after
search_live w k p spot to None = refl
search_live w k p spot to (Some a) = arrived_live _ k (Some a) true

call_live : (w : World) (k s : ℕ) (shown : Option ℕ) (got : Option Arrival) (listed : Option ℕ) (anew : Bool) → (after w k (Finalise s shown got listed anew)).live ≡ come w got
unfolding after
call_live w k s shown got listed anew =
    ended_live (arrived (show_spot w shown) k got false) k listed anew (is_some shown) ∙ arrived_live (show_spot w shown) k got false ∙ shown_live w got shown

-- the slots once what came is published
come_slots : (w : World) (live : List Dev) (got : Option Arrival) → live ≡ come w got → IfSome got (MayArrive w.setup w.live)
    → published got (slots_of w) ≡ map (state_at live) (below (length w.setup.machine.spots))
unfolding slots_of
come_slots w live got is may = rw is (published_come w got may)

pub search_slots : (w : World) (k p spot : ℕ) (to : Position) (got : Option Arrival) → IfSome got (MayArrive w.setup w.live)
    → published got (slots_of w) ≡ map (state_at (after w k (Search p spot to got)).live) (below (length w.setup.machine.spots))
search_slots w k p spot to got may = come_slots w (after w k (Search p spot to got)).live got (search_live w k p spot to got) may

pub call_slots : (w : World) (k s : ℕ) (shown : Option ℕ) (got : Option Arrival) (listed : Option ℕ) (anew : Bool) → IfSome got (MayArrive w.setup w.live)
    → published got (slots_of w) ≡ map (state_at (after w k (Finalise s shown got listed anew)).live) (below (length w.setup.machine.spots))
call_slots w k s shown got listed anew may = come_slots w (after w k (Finalise s shown got listed anew)).live got (call_live w k s shown got listed anew) may
