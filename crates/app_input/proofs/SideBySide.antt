-- What words and files ask for that give scripts to run side by side, and the status that they call for.
use Rattle.std.proofs.Common.{inl, inr, ◌≡◌, ℕ, Option, Some, None, List, refl}
use Rattle.std.specs.Prelude.{◌⊎◌, IfSome, Result}
use Rattle.std.specs.Prelude as std
use Rattle.cf_io.specs.Faults.{Rose}
use Rattle.cf_types.specs.declared.machine.Command.{Command}
use Rattle.cf_types.specs.declared.machine.Machine.{Machine}
use Rattle.cf_types.specs.declared.tables.Tables.{Tables}
use Rattle.config_rules.specs.Reading.{Files}
use Rattle.app_input.specs.Inputs.{FormedInputs, IsDue, Reads}
use Rattle.app_input.specs.SideBySide.{AsksSideBySide, CallsFor, OfSideBySide}
use Rattle.app_input.specs.declared.inputs.Inputs.{Inputs}
use Rattle.app_input.specs.declared.inputs.Inputs.TheVariants.{Run}
use Rattle.app_input.specs.declared.inputs.Inputs.TheVariants as input
use Rattle.app_words.specs.Words.{Form}
use Rattle.app_words.specs.declared.status.Status.{Status}
use Rattle.app_words.specs.declared.status.Status.TheVariants.{Ok, Memory}

-- the answer that these inputs are, and the one that a refusal is
abbrev pub answer : Inputs → Result Inputs Status
answer inputs = std.Ok inputs

abbrev pub refusal : Status → Result Inputs Status
refusal status = std.Err status

-- inputs that were read, of which P holds
pub asks_by : (P : Tables → Machine → List (List Command) → Type 0) (form : Option Form) (told : Option Files) (inputs : Inputs) → Reads form told (std.Ok inputs) → FormedInputs inputs
    → OfSideBySide P inputs → AsksSideBySide P form told
asks_by P form told (Run tables machine scripts) read formed holds = record {
  tables = tables;
  machine = machine;
  scripts = scripts;
  read = read;
  formed = formed;
  holds = holds;
}
asks_by P form told (input.Ioconf tables) read formed holds = absurd holds
asks_by P form told (input.Files name) read formed holds = absurd holds
asks_by P form told (input.Boot tables machine) read formed holds = absurd holds
asks_by P form told (input.Load n tables machine) read formed holds = absurd holds
asks_by P form told (input.Play tables machine scripts order) read formed holds = absurd holds
asks_by P form told (input.Replay tables machine scripts history) read formed holds = absurd holds
asks_by P form told (input.Upgrade tables machine scripts history) read formed holds = absurd holds
asks_by P form told (input.Watch tables machine scripts watch) read formed holds = absurd holds
asks_by P form told (input.Follow tables machine plan) read formed holds = absurd holds

-- what holds of them by that
pub asks_as : (P Q : Tables → Machine → List (List Command) → Type 0) (form : Option Form) (told : Option Files)
    → ((tables : Tables) (machine : Machine) (scripts : List (List Command)) → FormedInputs (Run tables machine scripts) → P tables machine scripts → Q tables machine scripts)
    → AsksSideBySide P form told → AsksSideBySide Q form told
asks_as P Q form told turned asks = record {
  tables = asks.tables;
  machine = asks.machine;
  scripts = asks.scripts;
  read = asks.read;
  formed = asks.formed;
  holds = turned asks.tables asks.machine asks.scripts asks.formed asks.holds;
}

-- ---- the status that is called for

calls_read : (form : Option Form) (files : Files) (inputs : Inputs) → (answer inputs ≡ std.Err Memory) ⊎ IsDue form files (answer inputs) → CallsFor form files Ok
calls_read form files inputs (inl e) = absurd (cc)
calls_read form files inputs (inr due) = (answer inputs, due, refl)

calls_refused : (form : Option Form) (files : Files) (status : Status) → (refusal status ≡ refusal Memory) ⊎ IsDue form files (refusal status) → (status ≡ Memory) ⊎ CallsFor form files status
calls_refused form files status (inl e) = inl (cc)
calls_refused form files status (inr due) = inr (refusal status, due, refl)

-- what holds where inputs were read
pub due_read : (X : Files → Type 0) (told : Option Files) (form : Option Form) (before after : ℕ) (inputs : Inputs) → ((files : Files) → CallsFor form files Ok → X files)
    → IfSome told (λ files. ¬ Rose before after → (answer inputs ≡ std.Err Memory) ⊎ IsDue form files (answer inputs)) → IfSome told (λ files. ¬ Rose before after → X files)
due_read X None form before after inputs so due = due
due_read X (Some files) form before after inputs so due = λ quiet. so files (calls_read form files inputs (due quiet))

-- what holds where they were refused
pub due_refused : (X : Files → Type 0) (told : Option Files) (form : Option Form) (before after : ℕ) (status : Status)
    → ((files : Files) → (status ≡ Memory) ⊎ CallsFor form files status → X files)
    → IfSome told (λ files. ¬ Rose before after → (refusal status ≡ refusal Memory) ⊎ IsDue form files (refusal status)) → IfSome told (λ files. ¬ Rose before after → X files)
due_refused X None form before after status so due = due
due_refused X (Some files) form before after status so due = λ quiet. so files (calls_refused form files status (due quiet))
