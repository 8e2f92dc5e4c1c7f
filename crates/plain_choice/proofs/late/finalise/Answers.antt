use Rattle.std.proofs.Common.{◌≡◌, ◌<◌, ◌∙◌, ℕ, zero, suc, true, false, List, [], ◌∷◌, Option, Some, None, length, slice_get, refl, ap, arith, eq-eqb}
use Rattle.std.specs.Prelude.{option_and_then}
use Rattle.std.specs.Option.{option_map_or}
use Rattle.cf_types.specs.declared.machine.Spot.{Spot}
use Rattle.cf_types.specs.declared.tables.Place.{Place}
use Rattle.cf_types.specs.declared.tables.Place.TheVariants.{Root, At}
use Rattle.run_rules.specs.declared.world.Dev.{Dev}
use Rattle.run_rules.specs.Next.{late_spot}
use Rattle.run_rules.specs.World.{World, device_at, same_place}
use Rattle.run_rules.proofs.Below.{find_below}
use Rattle.run_rules.specs.Suits.{hangs_at}
use Rattle.plain_world.specs.Plain.{world_of}
use Rattle.plain_choice.proofs.late.finalise.Goals as goal

same_itself : (p : Place) → same_place p p ≡ true
same_itself Root = refl
same_itself (At a) = eq-eqb a a refl

-- a spot hangs at its own place
own_place : (spots : List Spot) (x : ℕ) → x < length spots → option_map_or (λ spot. same_place spot.place (option_map_or (λ spot. spot.place) (slice_get spots x) Root)) (slice_get spots x) false ≡ true
own_place [] x lt = absurd (omega arith)
own_place (spot ∷ spots) zero lt = same_itself spot.place
own_place (spot ∷ spots) (suc x) lt = own_place spots x (omega arith)

-- a spot that is shown is there
shown_there : (w : World) (o : Option Dev) (x : ℕ) → option_and_then (late_spot w) o ≡ Some x → x < length w.setup.machine.spots
unfolding late_spot
shown_there w None x e = absurd cc
shown_there w (Some d) x e = find_below _ (length w.setup.machine.spots) x e

pub arrival-requires-clause-at : goal.arrival-requires-clause-at
arrival-requires-clause-at c =
    let w = world_of c.args.seeker.now.rules.now c.args.plain.now in
    ap (hangs_at w.setup.machine c.in-Some.spot) c.place_of.ensures
    ∙ own_place w.setup.machine.spots c.in-Some.spot (shown_there w (device_at w.live c.args.serial) c.in-Some.spot c.in-Some.ensures)
