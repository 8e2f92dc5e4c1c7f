-- What words and files ask for that give scripts to run side by side.
use Rattle.std.specs.Prelude.{◌≡◌, Option, Result, List}
use Rattle.std.specs.Prelude as std
use Rattle.cf_types.specs.declared.machine.Command.{Command}
use Rattle.cf_types.specs.declared.machine.Machine.{Machine}
use Rattle.cf_types.specs.declared.tables.Tables.{Tables}
use Rattle.config_rules.specs.Reading.{Files}
use Rattle.app_input.specs.Inputs.{FormedInputs, IsDue, Reads}
use Rattle.app_input.specs.declared.inputs.Inputs.{Inputs}
use Rattle.app_input.specs.declared.inputs.Inputs.TheVariants.{Run}
use Rattle.app_words.specs.Status.{status_of}
use Rattle.app_words.specs.Words.{Form}
use Rattle.app_words.specs.declared.status.Status.{Status}

-- the inputs are scripts side by side, and P holds of them
abbrev pub OfSideBySide : (Tables → Machine → List (List Command) → Type 0) → Inputs → Type 0
OfSideBySide P (Run tables machine scripts) = P tables machine scripts
OfSideBySide P _ = ⊥

-- the words and the files give a machine with scripts, which are formed, and P holds of them
pub record AsksSideBySide (P : Tables → Machine → List (List Command) → Type 0) (form : Option Form) (told : Option Files) : Type 0 where
  pub tables : Tables
  pub machine : Machine
  pub scripts : List (List Command)
  pub read : Reads form told (std.Ok (Run tables machine scripts))
  pub formed : FormedInputs (Run tables machine scripts)
  pub holds : P tables machine scripts

-- the words or the files are refused so
abbrev pub IsRefused : Option Form → Option Files → Status → Type 0
IsRefused form told status = Reads form told (std.Err status)

-- the words and the files call for this status: that all was written where they give inputs, or their refusal
abbrev pub CallsFor : Option Form → Files → Status → Type 0
CallsFor form files status = (answer : Result Inputs Status) × IsDue form files answer × (status ≡ status_of answer)
