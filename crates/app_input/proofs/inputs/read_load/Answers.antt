use Rattle.std.proofs.Common.{◌∙◌, Option, Some, List, ap, sym, subst}
use Rattle.std.specs.Prelude.{codes}
use Rattle.cf_io.specs.declared.file.MemFile.{MemFile}
use Rattle.cf_io.specs.Memory.{file_named}
use Rattle.config_rules.specs.Reading.{Files}
use Rattle.app_input.specs.Inputs.{IsMeant}
use Rattle.app_input.proofs.MadeLaws.{made_read, made_unfit, machine_unread}
use Rattle.app_input.proofs.inputs.read_load.Goals as goal

pub returns-in-Ok-machine-clause-reads : goal.returns-in-Ok-machine-clause-reads
returns-in-Ok-machine-clause-reads c told =
    let same = c.read_tables.ensures.told in
    made_read c.args.count _ told c.in-Ok-read_tables.tables c.in-Ok-machine.machine (same ∙ ap (λ (files : List MemFile). Some (file_named files)) c.in-Ok.ensures)
    (subst (λ (files : Option Files). IsMeant files (codes "conf") c.in-Ok-read_tables.tables) (sym same) c.in-Ok-read_tables.ensures.reads)
    c.in-Ok-machine.ensures.reads

pub returns-in-Err-machine-clause-reads : goal.returns-in-Err-machine-clause-reads
returns-in-Err-machine-clause-reads c told =
    let same = c.read_tables.ensures.told in
    made_unfit c.args.count _ told c.in-Ok-read_tables.tables c.in-Err-machine.status (same ∙ ap (λ (files : List MemFile). Some (file_named files)) c.in-Ok.ensures)
    (subst (λ (files : Option Files). IsMeant files (codes "conf") c.in-Ok-read_tables.tables) (sym same) c.in-Ok-read_tables.ensures.reads)
    c.in-Err-machine.ensures.reads
    (machine_unread c.in-Err-machine.status c.in-Err-machine.ensures.counted)
