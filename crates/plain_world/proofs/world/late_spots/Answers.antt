use Rattle.std.proofs.Common.{◌≡◌, length, arith}
use Rattle.run_rules.specs.World.{late_spots}
use Rattle.plain_world.proofs.RulesLaws.{spots_are}
use Rattle.plain_world.proofs.world.late_spots.Goals as goal

pub returns : goal.returns
unfolding late_spots
returns c = let end : c.loop-spot.spot ≡ length c.args.rules.now.machine.spots = omega (arith, spots_are c.rules.inside c.args.rules.now c.rules.view_is) in rw end at c.loop-spot.invariant
