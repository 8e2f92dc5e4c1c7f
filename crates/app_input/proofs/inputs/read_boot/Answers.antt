use Rattle.std.specs.Prelude.{Ok, Err}
use Rattle.app_words.specs.Words.{boot}
use Rattle.app_input.proofs.AskedLaws.{boot_asked, config_stops}
use Rattle.app_input.proofs.inputs.read_boot.Goals as goal

pub returns-in-Err-clause-asked : goal.returns-in-Err-clause-asked
returns-in-Err-clause-asked g c = config_stops (boot c.args.file.now c.args.name.now) _ c.in-Err.status _ _ c.in-Err.ensures.reads c.in-Err.ensures.asked

pub returns-in-Ok-load_machine-clause-asked : goal.returns-in-Ok-load_machine-clause-asked
returns-in-Ok-load_machine-clause-asked g c =
    boot_asked _ _ c.args.file.now c.args.name.now c.in-Ok.tables (Ok c.in-Ok-load_machine.machine) _ _ _ c.read_tables.ensures.told c.in-Ok.ensures.reads c.in-Ok.ensures.asked
    c.in-Ok-load_machine.ensures.reads c.in-Ok-load_machine.ensures.asked

pub returns-in-Err-load_machine-clause-asked : goal.returns-in-Err-load_machine-clause-asked
returns-in-Err-load_machine-clause-asked g c =
    boot_asked _ _ c.args.file.now c.args.name.now c.in-Ok.tables (Err c.in-Err-load_machine.status) _ _ _ c.read_tables.ensures.told c.in-Ok.ensures.reads c.in-Ok.ensures.asked
    c.in-Err-load_machine.ensures.reads c.in-Err-load_machine.ensures.asked
