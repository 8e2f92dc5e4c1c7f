use Rattle.std.proofs.Common.{◌∙◌, refl, subst, Option, Ok, Err}
use Rattle.config_rules.specs.Reading.{Files}
use Rattle.app_input.specs.Asked.{plan_files}
use Rattle.app_input.specs.Inputs.{IsDescribed}
use Rattle.app_input.specs.Plans.{plan_from}
use Rattle.app_input.specs.Scripted.{IsCalledFor}
use Rattle.app_words.specs.Words.{following}
use Rattle.app_words.specs.declared.status.Status.TheVariants as status
use Rattle.app_input.proofs.AskedLaws.{config_stops, plan_asked, run_asked, run_unfit}
use Rattle.app_input.proofs.PlanLaws.{plan_read, plan_refused}
use Rattle.app_input.proofs.inputs.read_follow.Goals as goal

pub returns-in-Ok-load_plan-clause-reads : goal.returns-in-Ok-load_plan-clause-reads
returns-in-Ok-load_plan-clause-reads g c =
    let told = g.F.Files.told c.args.files.now in
    plan_read told c.args.config.now c.args.name.now c.args.plan.now c.in-Ok.tables c.in-Ok-load_machine.machine c.in-Ok-load_plan.plan c.in-Ok.ensures.reads
    (subst (λ (files : Option Files). IsDescribed files c.args.name.now c.in-Ok.tables (Ok c.in-Ok-load_machine.machine)) c.read_tables.ensures.told c.in-Ok-load_machine.ensures.reads)
    (subst (λ (files : Option Files). IsCalledFor files (λ named. plan_from named c.in-Ok.tables c.args.plan.now) (Ok c.in-Ok-load_plan.plan))
    (c.load_machine.ensures.told ∙ c.read_tables.ensures.told) c.in-Ok-load_plan.ensures.reads)

pub returns-in-Err-load_plan-clause-reads : goal.returns-in-Err-load_plan-clause-reads
returns-in-Err-load_plan-clause-reads g c =
    let told = g.F.Files.told c.args.files.now in
    plan_refused _ told c.args.config.now c.args.name.now c.args.plan.now c.in-Ok.tables c.in-Ok-load_machine.machine c.in-Err-load_plan.status refl c.in-Ok.ensures.reads
    (subst (λ (files : Option Files). IsDescribed files c.args.name.now c.in-Ok.tables (Ok c.in-Ok-load_machine.machine)) c.read_tables.ensures.told c.in-Ok-load_machine.ensures.reads)
    (subst (λ (files : Option Files). IsCalledFor files (λ named. plan_from named c.in-Ok.tables c.args.plan.now) (Err c.in-Err-load_plan.status))
    (c.load_machine.ensures.told ∙ c.read_tables.ensures.told) c.in-Err-load_plan.ensures.reads) c.in-Err-load_plan.ensures.of

pub returns-in-Err-clause-asked : goal.returns-in-Err-clause-asked
returns-in-Err-clause-asked g c =
    config_stops (following c.args.config.now c.args.name.now c.args.plan.now) _ c.in-Err.status _ _ c.in-Err.ensures.reads c.in-Err.ensures.asked

pub returns-in-Err-load_machine-clause-asked : goal.returns-in-Err-load_machine-clause-asked
returns-in-Err-load_machine-clause-asked g c =
    run_unfit (following c.args.config.now c.args.name.now c.args.plan.now) c.args.name.now (plan_files c.in-Ok.tables c.args.plan.now)
    _ _ c.in-Ok.tables c.in-Err-load_machine.status _ _ _ (λ files. refl) c.read_tables.ensures.told
    c.in-Ok.ensures.reads c.in-Ok.ensures.asked c.in-Err-load_machine.ensures.reads c.in-Err-load_machine.ensures.asked

pub returns-in-Ok-load_plan-clause-asked : goal.returns-in-Ok-load_plan-clause-asked
returns-in-Ok-load_plan-clause-asked g c =
    run_asked (following c.args.config.now c.args.name.now c.args.plan.now) c.args.name.now (plan_files c.in-Ok.tables c.args.plan.now)
    _ _ _ c.in-Ok.tables c.in-Ok-load_machine.machine status.Ok _ _ _ _ (λ files. refl)
    c.read_tables.ensures.told (c.load_machine.ensures.told ∙ c.read_tables.ensures.told) c.in-Ok.ensures.reads c.in-Ok.ensures.asked
    c.in-Ok-load_machine.ensures.reads c.in-Ok-load_machine.ensures.asked
    (plan_asked c.in-Ok.tables c.args.plan.now _ (Ok c.in-Ok-load_plan.plan) _ _ c.in-Ok-load_plan.ensures.reads c.in-Ok-load_plan.ensures.asked)

pub returns-in-Err-load_plan-clause-asked : goal.returns-in-Err-load_plan-clause-asked
returns-in-Err-load_plan-clause-asked g c =
    run_asked (following c.args.config.now c.args.name.now c.args.plan.now) c.args.name.now (plan_files c.in-Ok.tables c.args.plan.now)
    _ _ _ c.in-Ok.tables c.in-Ok-load_machine.machine c.in-Err-load_plan.status _ _ _ _ (λ files. refl)
    c.read_tables.ensures.told (c.load_machine.ensures.told ∙ c.read_tables.ensures.told) c.in-Ok.ensures.reads c.in-Ok.ensures.asked
    c.in-Ok-load_machine.ensures.reads c.in-Ok-load_machine.ensures.asked
    (plan_asked c.in-Ok.tables c.args.plan.now _ (Err c.in-Err-load_plan.status) _ _ c.in-Err-load_plan.ensures.reads c.in-Err-load_plan.ensures.asked)
