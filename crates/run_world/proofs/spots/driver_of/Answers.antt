use Rattle.std.proofs.Common.{arith}
use Rattle.std.proofs.lemmas.Option.{gets}
use Rattle.run_world.proofs.spots.driver_of.Goals as goal

pub returns-in-Some : goal.returns-in-Some
returns-in-Some c = grind (arith, gets)

pub returns-in-None : goal.returns-in-None
returns-in-None c = grind (arith, gets)
