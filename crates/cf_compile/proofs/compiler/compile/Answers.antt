use Rattle.cf_compile.proofs.CompileLaws.{asks_read, asks_stopped, compiles_read}
use Rattle.cf_compile.proofs.compiler.compile.Goals as goal

pub returns-clause-compiles : goal.returns-clause-compiles
returns-clause-compiles g c =
    compiles_read _ c.args.name.now _ _ c.in_ok-read.read c.compile_read.result c.in_ok-read.ensures.reading c.in_ok-read.ensures.counted c.compile_read.ensures

pub returns-clause-asked : goal.returns-clause-asked
returns-clause-asked g c = asks_read _ c.args.name.now c.compile_read.result _ _ c.in_ok-read.ensures.asked

pub returns-in_err-read-clause-asked : goal.returns-in_err-read-clause-asked
returns-in_err-read-clause-asked g c = asks_stopped _ c.args.name.now _ c.from_residual.result _ _ c.from_residual.ensures.1 c.in_err-read.ensures.asked
