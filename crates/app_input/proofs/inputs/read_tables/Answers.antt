use Rattle.cf_types.specs.declared.tables.Tables.{Tables}
use Rattle.config_rules.specs.Reading.{reading}
use Rattle.app_input.proofs.AskedLaws.{stopped_asked}
use Rattle.app_input.proofs.StopLaws.{counted_by, stopped_by}
use Rattle.app_input.proofs.inputs.read_tables.Goals as goal

pub returns-in-Err-clause-reads : goal.returns-in-Err-clause-reads
returns-in-Err-clause-reads g c = stopped_by _ _ _ _ c.in-Err.stop c.status_of_stop.result c.status_of_stop.ensures c.in-Err.ensures.compiles

pub returns-in-Err-clause-counted : goal.returns-in-Err-clause-counted
returns-in-Err-clause-counted g c = counted_by Tables (g.F.Files.told c.args.files.now) c.args.file.now _ _ c.in-Err.stop c.status_of_stop.result c.status_of_stop.ensures c.in-Err.ensures.compiles

pub returns-in-Err-clause-asked : goal.returns-in-Err-clause-asked
returns-in-Err-clause-asked g c =
    stopped_asked Tables (g.F.Files.told c.args.files.now) (λ files. (reading files c.args.file.now).asked) c.in-Err.stop c.status_of_stop.result _ _ c.status_of_stop.ensures c.in-Err.ensures.asked
