use Rattle.cf_compile.proofs.CompileLaws.{asks_read, asks_stopped}
use Rattle.cf_compile.proofs.KnownLaws.{known_formed, knows_read}
use Rattle.cf_compile.proofs.known.compile_known.Goals as goal

pub returns-clause-knows : goal.returns-clause-knows
returns-clause-knows g c =
    knows_read _ c.args.name.now _ _ c.in_ok-read.read c.known_of.result c.in_ok-read.ensures.reading c.in_ok-read.ensures.counted c.known_of.ensures

pub returns-clause-formed : goal.returns-clause-formed
returns-clause-formed g c = known_formed _ c.known_of.result c.known_of.ensures

pub returns-clause-asked : goal.returns-clause-asked
returns-clause-asked g c = asks_read _ c.args.name.now c.known_of.result _ _ c.in_ok-read.ensures.asked

pub returns-in_err-read-clause-asked : goal.returns-in_err-read-clause-asked
returns-in_err-read-clause-asked g c = asks_stopped _ c.args.name.now _ c.from_residual.result _ _ c.from_residual.ensures.1 c.in_err-read.ensures.asked
