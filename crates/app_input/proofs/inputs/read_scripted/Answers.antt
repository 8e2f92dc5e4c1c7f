use Rattle.std.proofs.Common.{◌∙◌, refl, map, string_bytes, subst, Option, Ok, Err}
use Rattle.config_rules.specs.Reading.{Files}
use Rattle.app_input.specs.Inputs.{IsDescribed}
use Rattle.app_input.specs.Scripted.{IsCalledFor, scripted_of}
use Rattle.app_input.specs.Asked.{scripted_files}
use Rattle.app_words.specs.Words.{scripted}
use Rattle.app_words.specs.declared.status.Status.TheVariants as status
use Rattle.app_input.proofs.AskedLaws.{config_stops, run_asked, run_unfit}
use Rattle.app_input.proofs.ScriptedLaws.{formed_run, run_read, run_refused}
use Rattle.app_input.proofs.inputs.read_scripted.Goals as goal

pub returns-in-Ok-load_scripted-clause-reads : goal.returns-in-Ok-load_scripted-clause-reads
returns-in-Ok-load_scripted-clause-reads g c =
    let told = g.F.Files.told c.args.files.now in
    run_read _ told c.args.task c.args.config.now c.args.name.now c.args.course.now (map string_bytes c.args.scripts.now) c.in-Ok.tables c.in-Ok-load_machine.machine c.in-Ok-load_scripted.found
    c.inputs_by.result refl c.in-Ok.ensures.reads
    (subst (λ (files : Option Files). IsDescribed files c.args.name.now c.in-Ok.tables (Ok c.in-Ok-load_machine.machine)) c.read_tables.ensures.told c.in-Ok-load_machine.ensures.reads)
    (subst (λ (files : Option Files). IsCalledFor files (λ named. scripted_of c.args.task named (map string_bytes c.args.scripts.now) c.args.course.now) (Ok c.in-Ok-load_scripted.found))
    (c.load_machine.ensures.told ∙ c.read_tables.ensures.told) c.in-Ok-load_scripted.ensures.reads) c.in-Ok-load_scripted.ensures.task c.inputs_by.ensures

pub returns-in-Ok-load_scripted-clause-formed : goal.returns-in-Ok-load_scripted-clause-formed
returns-in-Ok-load_scripted-clause-formed g c =
    formed_run c.in-Ok.tables c.in-Ok-load_machine.machine c.in-Ok-load_scripted.found c.inputs_by.result c.in-Ok.ensures.formed c.in-Ok-load_machine.ensures.fits
    c.in-Ok-load_scripted.ensures.formed c.inputs_by.ensures

pub returns-in-Err-load_scripted-clause-reads : goal.returns-in-Err-load_scripted-clause-reads
returns-in-Err-load_scripted-clause-reads g c =
    let told = g.F.Files.told c.args.files.now in
    run_refused _ told c.args.task c.args.config.now c.args.name.now c.args.course.now (map string_bytes c.args.scripts.now) c.in-Ok.tables c.in-Ok-load_machine.machine c.in-Err-load_scripted.status refl
    c.in-Ok.ensures.reads
    (subst (λ (files : Option Files). IsDescribed files c.args.name.now c.in-Ok.tables (Ok c.in-Ok-load_machine.machine)) c.read_tables.ensures.told c.in-Ok-load_machine.ensures.reads)
    (subst (λ (files : Option Files). IsCalledFor files (λ named. scripted_of c.args.task named (map string_bytes c.args.scripts.now) c.args.course.now) (Err c.in-Err-load_scripted.status))
    (c.load_machine.ensures.told ∙ c.read_tables.ensures.told) c.in-Err-load_scripted.ensures.reads) c.in-Err-load_scripted.ensures.of

pub returns-in-Err-clause-asked : goal.returns-in-Err-clause-asked
returns-in-Err-clause-asked g c =
    config_stops (scripted c.args.task c.args.config.now c.args.name.now c.args.course.now (map string_bytes c.args.scripts.now)) _ c.in-Err.status _ _ c.in-Err.ensures.reads c.in-Err.ensures.asked

pub returns-in-Err-load_machine-clause-asked : goal.returns-in-Err-load_machine-clause-asked
returns-in-Err-load_machine-clause-asked g c =
    let names = map string_bytes c.args.scripts.now in
    run_unfit (scripted c.args.task c.args.config.now c.args.name.now c.args.course.now names) c.args.name.now (λ files. scripted_files c.args.task files names c.args.course.now)
    _ _ c.in-Ok.tables c.in-Err-load_machine.status _ _ _ (λ files. refl) c.read_tables.ensures.told
    c.in-Ok.ensures.reads c.in-Ok.ensures.asked c.in-Err-load_machine.ensures.reads c.in-Err-load_machine.ensures.asked

pub returns-in-Ok-load_scripted-clause-asked : goal.returns-in-Ok-load_scripted-clause-asked
returns-in-Ok-load_scripted-clause-asked g c =
    let names = map string_bytes c.args.scripts.now in
    run_asked (scripted c.args.task c.args.config.now c.args.name.now c.args.course.now names) c.args.name.now (λ files. scripted_files c.args.task files names c.args.course.now)
    _ _ _ c.in-Ok.tables c.in-Ok-load_machine.machine status.Ok _ _ _ _ (λ files. refl)
    c.read_tables.ensures.told (c.load_machine.ensures.told ∙ c.read_tables.ensures.told) c.in-Ok.ensures.reads c.in-Ok.ensures.asked
    c.in-Ok-load_machine.ensures.reads c.in-Ok-load_machine.ensures.asked c.in-Ok-load_scripted.ensures.asked

pub returns-in-Err-load_scripted-clause-asked : goal.returns-in-Err-load_scripted-clause-asked
returns-in-Err-load_scripted-clause-asked g c =
    let names = map string_bytes c.args.scripts.now in
    run_asked (scripted c.args.task c.args.config.now c.args.name.now c.args.course.now names) c.args.name.now (λ files. scripted_files c.args.task files names c.args.course.now)
    _ _ _ c.in-Ok.tables c.in-Ok-load_machine.machine c.in-Err-load_scripted.status _ _ _ _ (λ files. refl)
    c.read_tables.ensures.told (c.load_machine.ensures.told ∙ c.read_tables.ensures.told) c.in-Ok.ensures.reads c.in-Ok.ensures.asked
    c.in-Ok-load_machine.ensures.reads c.in-Ok-load_machine.ensures.asked c.in-Err-load_scripted.ensures.asked
