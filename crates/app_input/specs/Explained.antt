-- What the words of `devwhy` and the files call for: inputs, with the statements of the configuration.
use Rattle.std.specs.Prelude.{ℕ, Option, Some, None, IfOk, IfSome, Result, List}
use Rattle.std.specs.Prelude as std
use Rattle.cf_compile.specs.Known.{IsKnown}
use Rattle.cf_compile.specs.declared.known.Known.{Known}
use Rattle.cf_types.specs.declared.machine.Machine.{Machine}
use Rattle.cf_types.specs.declared.tables.Tables.{Tables}
use Rattle.config_rules.specs.Reading.{Files}
use Rattle.app_input.specs.Inputs.{FormedInputs, Reads, ReadsTables}
use Rattle.app_input.specs.declared.explained.Explained.{Explained}
use Rattle.app_input.specs.declared.inputs.Inputs.{Inputs}
use Rattle.app_input.specs.declared.inputs.Inputs.TheVariants.{Boot, Ioconf}
use Rattle.app_words.specs.Words.{Form, config_of}
use Rattle.app_words.specs.declared.status.Status.{Status}

-- the inputs without the statements
abbrev pub inputs_of : Tables → Option Machine → Inputs
inputs_of tables None = Ioconf tables
inputs_of tables (Some machine) = Boot tables machine

abbrev pub inputs_in : Explained → Inputs
inputs_in e = inputs_of e.known.tables e.machine

-- the answer that they are, or the refusal
abbrev pub given : Result Explained Status → Result Inputs Status
given (std.Ok e) = std.Ok (inputs_in e)
given (std.Err status) = std.Err status

-- where the files are told, the configuration has these tables and statements
abbrev pub AreKnown : Option Files → List ℕ → Known → Type 0
AreKnown told file known = IfSome told (λ files. IsKnown files file known)

-- why the configuration was read with its statements, or refused
abbrev pub ReadsKnown : Option Files → List ℕ → Result Known Status → Type 0
ReadsKnown told file (std.Ok known) = AreKnown told file known
ReadsKnown told file (std.Err status) = ReadsTables told file (std.Err status)

-- the statements are those of the configuration of a form
abbrev pub AreOfForm : Option Form → Option Files → Known → Type 0
AreOfForm None told known = ⊥
AreOfForm (Some form) told known = AreKnown told (config_of form) known

-- why the words and the files were read as inputs, with the statements, or refused
abbrev pub ReadsExplained : Option Form → Option Files → Result Explained Status → Type 0
ReadsExplained form told result = Reads form told (given result) × IfOk result (λ e. AreOfForm form told e.known)

abbrev pub FormedExplained : Explained → Type 0
FormedExplained e = FormedInputs (inputs_in e)
