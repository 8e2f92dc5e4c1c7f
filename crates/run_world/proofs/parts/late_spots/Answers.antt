use Rattle.std.proofs.Common.{◌≡◌, length, arith}
use Rattle.std.proofs.lemmas.Grind.{common_steps}
use Rattle.run_rules.specs.World.{late_spots}
use Rattle.run_world.proofs.parts.late_spots.Goals as goal

pub loop-spot-preserved : goal.loop-spot-preserved
loop-spot-preserved c = grind (arith, common_steps)

pub returns : goal.returns
unfolding late_spots
returns c = let end : c.loop-spot.spot ≡ length c.args.setup.now.machine.spots = omega arith in rw end at c.loop-spot.invariant
