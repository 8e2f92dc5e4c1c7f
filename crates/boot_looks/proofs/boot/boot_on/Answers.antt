use Rattle.plain_world.specs.Plain.{world_of}
use Rattle.plain_effect.proofs.Places.{has_place}
use Rattle.plain_world.proofs.Going.{few_called}
use Rattle.boot_looks.proofs.boot.boot_on.Goals as goal

pub apply-requires-clause-place : goal.apply-requires-clause-place
apply-requires-clause-place c = has_place (world_of c.args.rules.now c.args.plain.now) 0 c.args.deed.now (few_called c.args.plain.now) c.requires.due
