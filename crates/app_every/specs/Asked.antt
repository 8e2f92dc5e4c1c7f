-- The text that the words and the files ask for, and why the program answers so.
use Rattle.std.specs.Prelude.{◌≡◌, ℕ, ◌⊎◌, ⊤, Option, Some, None, Result, List, []}
use Rattle.std.specs.Prelude as std
use Rattle.cf_io.specs.Told.{Told}
use Rattle.cf_types.specs.declared.machine.Command.{Command}
use Rattle.cf_types.specs.declared.machine.Machine.{Machine}
use Rattle.cf_types.specs.declared.tables.Tables.{Tables}
use Rattle.config_rules.specs.Reading.{Files}
use Rattle.every_order.specs.Every.{IsEveryOrder}
use Rattle.every_order.specs.declared.every.Every.{Every}
use Rattle.run_rules.specs.World.{setup_of}
use Rattle.app_input.specs.Asked.{AsksInputs}
use Rattle.app_input.specs.SideBySide.{AsksSideBySide, CallsFor, OfSideBySide}
use Rattle.app_input.specs.SideBySide as side
use Rattle.app_input.specs.declared.inputs.Inputs.{Inputs}
use Rattle.app_words.specs.Words.{Form, drvall_form, most_worlds}
use Rattle.app_words.specs.declared.program.Program.TheVariants.{Drvall}
use Rattle.app_words.specs.declared.status.Status.{Status}
use Rattle.app_words.specs.declared.status.Status.TheVariants.{Memory, Stuck, Worlds}
use Rattle.app_output.specs.Ended.{OrMemory}
use Rattle.app_output.specs.Headline.{Does}
use Rattle.app_output.specs.Status.{err_text}
use Rattle.app_output.specs.Still.{FindsText}
use Rattle.app_output.specs.Still as still
use Rattle.app_output.specs.declared.stop.OutputStop.{OutputStop}
use Rattle.app_every.specs.EveryText.{every_text}

-- all that the orders of these scripts lead to behind the boot, within the bound; or nothing, where they lead to more worlds
abbrev pub LeadTo : ℕ → Option Every → Tables → Machine → List (List Command) → Type 0
LeadTo most answer tables machine scripts = IsEveryOrder (setup_of tables machine scripts) most answer

-- each order ends with all callers
abbrev pub AllEnd : Every → Type 0
AllEnd e = e.stuck.items ≡ []

-- the text of all that the orders lead to, which is of this kind
abbrev pub IsEveryText : ℕ → (Every → Type 0) → List ℕ → Tables → Machine → List (List Command) → Type 0
IsEveryText most IsKind text tables machine scripts = (e : Every) × LeadTo most (Some e) tables machine scripts × IsKind e × (text ≡ every_text e)

-- the words and the files ask for this text: no order stands still
abbrev pub Asks : ℕ → Option Form → Option Files → List ℕ → Type 0
Asks most form told text = AsksSideBySide (IsEveryText most AllEnd text) form told

-- or some order does; then nothing more is said on standard error
abbrev pub AsksStuck : ℕ → Option Form → Option Files → List ℕ → List ℕ → Type 0
AsksStuck most form told waits text = (waits ≡ []) × AsksSideBySide (IsEveryText most (λ e. ¬ AllEnd e) text) form told

-- the words or the files are refused so, or the orders lead to more worlds than the bound
abbrev pub IsRefused : ℕ → Option Form → Option Files → Status → Type 0
IsRefused most form told status = side.IsRefused form told status ⊎ ((status ≡ Worlds most) × AsksSideBySide (LeadTo most None) form told)

-- what the orders of these inputs lead to was found, or they lead to more worlds than the bound, or memory ran out
abbrev pub EveryFor : ℕ → Inputs → Result Every Status → Type 0
EveryFor most inputs (std.Ok e) = OfSideBySide (LeadTo most (Some e)) inputs
EveryFor most inputs (std.Err status) = (status ≡ Memory) ⊎ ((status ≡ Worlds most) × OfSideBySide (LeadTo most None) inputs)

-- its text is what is asked for, or the words or the files are refused
abbrev pub FindsEvery : ℕ → Option Form → Option Files → Result Every Status → Type 0
FindsEvery most form told (std.Ok e) = FindsText (Asks most form told) (AsksStuck most form told) (AllEnd e) [] (every_text e)
FindsEvery most form told (std.Err status) = IsRefused most form told status

-- the status by whether all orders end and by how writing ended
abbrev pub EndsWith : {A : Type 0} → Every → Result A OutputStop → Status → Type 0
EndsWith e written status = still.EndsWith (AllEnd e) [] written status

-- why the program answers so, and what its output then got
abbrev pub Explains : ℕ → Option Form → Option Files → Told → Told → Status → Type 0
Explains most form told old new status = still.Explains (Asks most form told) (AsksStuck most form told) (IsRefused most form told) old new status

-- some order stands still, or the orders lead to more worlds than the bound
abbrev pub IsFoundStatus : Status → Type 0
IsFoundStatus (Stuck waits) = ⊤
IsFoundStatus (Worlds most) = ⊤
IsFoundStatus _ = ⊥

-- the status is the one that they call for, or one that the orders call for where it is `Ok`
abbrev pub IsDueStatus : Option Form → Files → Status → Type 0
IsDueStatus form files status = still.IsDueStatus IsFoundStatus (CallsFor form files) status

-- the same, or memory ran out
abbrev pub IsDueOr : Option Form → Files → Status → Type 0
IsDueOr form files status = OrMemory (IsDueStatus form files) status

-- what `drvall` says of its own
abbrev pub drvall_does : List (List ℕ) → Does
drvall_does words = record {
  Explains = Explains (most_worlds words) (drvall_form words);
  CallsFor = IsDueStatus (drvall_form words);
  AsksFor = AsksInputs (drvall_form words);
  err_text = err_text Drvall words;
}
