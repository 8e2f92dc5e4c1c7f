-- What a plan file gives, and what its refusal comes to.
use Rattle.std.proofs.Common.{◌≡◌, inr, List, ℕ, Option, Some, refl, subst}
use Rattle.std.specs.Prelude as std
use Rattle.cf_types.specs.declared.machine.Machine.{Machine}
use Rattle.cf_types.specs.declared.tables.Tables.{Tables}
use Rattle.config_rules.specs.Reading.{Files}
use Rattle.live_rules.specs.declared.plan.Plan.{Plan}
use Rattle.app_words.specs.declared.status.Status.{Status}
use Rattle.app_words.specs.Words.{Form, following}
use Rattle.app_input.specs.declared.inputs.Inputs.TheVariants as input
use Rattle.app_input.specs.Inputs.{IsDescribed, IsMeant, Reads}
use Rattle.app_input.specs.Plans.{plan_from}
use Rattle.app_input.specs.Scripted.{IsCalledFor, IsOfFile}
use Rattle.app_input.proofs.ScriptedLaws.{called_given, called_refused, reads_refused}

-- a plan was refused
pub plan_refused : (form : Option Form) (told : Option Files) (file name plan : List ℕ) (tables : Tables) (machine : Machine) (status : Status)
    → form ≡ Some (following file name plan) → IsMeant told file tables → IsDescribed told name tables (std.Ok machine)
    → IsCalledFor told (λ files. plan_from files tables plan) (std.Err status) → IsOfFile 0 plan status → Reads form told (std.Err status)
plan_refused form told file name plan tables machine status is meant described called of =
    reads_refused form told (following file name plan) 0 plan status is refl of
    (λ read room. inr (inr (tables, machine, (file, name, plan, is, meant, described, (called_refused told (λ files. plan_from files tables plan) status read room called, of)))))

-- a plan was read
pub plan_read : (told : Option Files) (file name at : List ℕ) (tables : Tables) (machine : Machine) (plan : Plan)
    → IsMeant told file tables → IsDescribed told name tables (std.Ok machine) → IsCalledFor told (λ files. plan_from files tables at) (std.Ok plan)
    → Reads (Some (following file name at)) told (std.Ok (input.Follow tables machine plan))
plan_read told file name at tables machine plan meant described called =
    (file, name, at, refl, meant, described, called_given told (λ files. plan_from files tables at) plan called)
