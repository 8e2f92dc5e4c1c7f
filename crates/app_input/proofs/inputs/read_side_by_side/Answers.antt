use Rattle.std.proofs.Common.{◌∙◌, refl, map, string_bytes, subst, Option, Ok, Err}
use Rattle.config_rules.specs.Reading.{Files}
use Rattle.app_input.specs.Asked.{script_files}
use Rattle.app_input.specs.Inputs.{IsDescribed}
use Rattle.app_input.specs.Scripted.{IsCalledFor, scripts_of}
use Rattle.app_words.specs.Words.{side_by_side}
use Rattle.app_words.specs.declared.status.Status.TheVariants as status
use Rattle.app_input.proofs.AskedLaws.{config_stops, run_asked, run_unfit}
use Rattle.app_input.proofs.ScriptedLaws.{side_by_side_read, side_by_side_refused}
use Rattle.app_input.proofs.inputs.read_side_by_side.Goals as goal

pub returns-in-Ok-load_scripts-clause-reads : goal.returns-in-Ok-load_scripts-clause-reads
returns-in-Ok-load_scripts-clause-reads g c =
    let told = g.F.Files.told c.args.files.now in
    let names = map string_bytes c.args.scripts.now in
    side_by_side_read told c.args.config.now c.args.name.now names c.in-Ok.tables c.in-Ok-load_machine.machine c.in-Ok-load_scripts.scripts c.in-Ok.ensures.reads
    (subst (λ (files : Option Files). IsDescribed files c.args.name.now c.in-Ok.tables (Ok c.in-Ok-load_machine.machine)) c.read_tables.ensures.told c.in-Ok-load_machine.ensures.reads)
    (subst (λ (files : Option Files). IsCalledFor files (λ named. scripts_of named names) (Ok c.in-Ok-load_scripts.scripts))
    (c.load_machine.ensures.told ∙ c.read_tables.ensures.told) c.in-Ok-load_scripts.ensures.reads)

pub returns-in-Err-load_scripts-clause-reads : goal.returns-in-Err-load_scripts-clause-reads
returns-in-Err-load_scripts-clause-reads g c =
    let told = g.F.Files.told c.args.files.now in
    let names = map string_bytes c.args.scripts.now in
    side_by_side_refused _ told c.args.config.now c.args.name.now names c.in-Ok.tables c.in-Ok-load_machine.machine c.in-Err-load_scripts.status refl c.in-Ok.ensures.reads
    (subst (λ (files : Option Files). IsDescribed files c.args.name.now c.in-Ok.tables (Ok c.in-Ok-load_machine.machine)) c.read_tables.ensures.told c.in-Ok-load_machine.ensures.reads)
    (subst (λ (files : Option Files). IsCalledFor files (λ named. scripts_of named names) (Err c.in-Err-load_scripts.status))
    (c.load_machine.ensures.told ∙ c.read_tables.ensures.told) c.in-Err-load_scripts.ensures.reads) c.in-Err-load_scripts.ensures.of

pub returns-in-Err-clause-asked : goal.returns-in-Err-clause-asked
returns-in-Err-clause-asked g c =
    config_stops (side_by_side c.args.config.now c.args.name.now (map string_bytes c.args.scripts.now)) _ c.in-Err.status _ _ c.in-Err.ensures.reads c.in-Err.ensures.asked

pub returns-in-Err-load_machine-clause-asked : goal.returns-in-Err-load_machine-clause-asked
returns-in-Err-load_machine-clause-asked g c =
    let names = map string_bytes c.args.scripts.now in
    run_unfit (side_by_side c.args.config.now c.args.name.now names) c.args.name.now (λ files. script_files files 1 names)
    _ _ c.in-Ok.tables c.in-Err-load_machine.status _ _ _ (λ files. refl) c.read_tables.ensures.told
    c.in-Ok.ensures.reads c.in-Ok.ensures.asked c.in-Err-load_machine.ensures.reads c.in-Err-load_machine.ensures.asked

pub returns-in-Ok-load_scripts-clause-asked : goal.returns-in-Ok-load_scripts-clause-asked
returns-in-Ok-load_scripts-clause-asked g c =
    let names = map string_bytes c.args.scripts.now in
    run_asked (side_by_side c.args.config.now c.args.name.now names) c.args.name.now (λ files. script_files files 1 names)
    _ _ _ c.in-Ok.tables c.in-Ok-load_machine.machine status.Ok _ _ _ _ (λ files. refl)
    c.read_tables.ensures.told (c.load_machine.ensures.told ∙ c.read_tables.ensures.told) c.in-Ok.ensures.reads c.in-Ok.ensures.asked
    c.in-Ok-load_machine.ensures.reads c.in-Ok-load_machine.ensures.asked c.in-Ok-load_scripts.ensures.asked

pub returns-in-Err-load_scripts-clause-asked : goal.returns-in-Err-load_scripts-clause-asked
returns-in-Err-load_scripts-clause-asked g c =
    let names = map string_bytes c.args.scripts.now in
    run_asked (side_by_side c.args.config.now c.args.name.now names) c.args.name.now (λ files. script_files files 1 names)
    _ _ _ c.in-Ok.tables c.in-Ok-load_machine.machine c.in-Err-load_scripts.status _ _ _ _ (λ files. refl)
    c.read_tables.ensures.told (c.load_machine.ensures.told ∙ c.read_tables.ensures.told) c.in-Ok.ensures.reads c.in-Ok.ensures.asked
    c.in-Ok-load_machine.ensures.reads c.in-Ok-load_machine.ensures.asked c.in-Err-load_scripts.ensures.asked
