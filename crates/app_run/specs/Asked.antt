-- The text that the words and the files ask for, and why the program answers so.
use Rattle.std.specs.Prelude.{◌≡◌, ℕ, Option, Result, List}
use Rattle.std.specs.Prelude as std
use Rattle.cf_io.specs.Told.{Told}
use Rattle.cf_types.specs.declared.machine.Command.{Command}
use Rattle.cf_types.specs.declared.machine.Machine.{Machine}
use Rattle.cf_types.specs.declared.machine.Ticket.{Ticket}
use Rattle.cf_types.specs.declared.tables.Tables.{Tables}
use Rattle.config_rules.specs.Reading.{Files}
use Rattle.board_lock.specs.Boards.{FinishedShown}
use Rattle.run_rules.specs.declared.event.Event.{Event}
use Rattle.run_rules.specs.World.{World, setup_of}
use Rattle.app_input.specs.Asked.{AsksInputs}
use Rattle.app_input.specs.SideBySide.{AsksSideBySide, CallsFor, IsRefused, OfSideBySide}
use Rattle.app_words.specs.Words.{Form, drvrun_form}
use Rattle.app_input.specs.declared.inputs.Inputs.{Inputs}
use Rattle.app_words.specs.declared.program.Program.TheVariants.{Drvrun}
use Rattle.app_words.specs.declared.status.Status.{Status}
use Rattle.app_words.specs.declared.status.Status.TheVariants.{Memory}
use Rattle.app_output.specs.Ended.{OrMemory}
use Rattle.app_output.specs.declared.stop.OutputStop.{OutputStop}
use Rattle.app_output.specs.Headline.{Does}
use Rattle.app_output.specs.RunText.{run_text}
use Rattle.app_output.specs.Status.{err_text}
use Rattle.app_output.specs.Still.{FindsText, IsStuckStatus}
use Rattle.app_output.specs.Still as still
use Rattle.app_run.specs.Ran.{HasRunOut, HaveEnded, RanSideBySide, RanStuck}
use Rattle.app_run.specs.StuckText.{stuck_text}

-- the text of a machine on which scripts ran side by side to their end: the tables, the one history of all callers, and the tree that it leaves
abbrev pub IsRunText : (Ticket → Type 0) → Tables → Machine → List (List Command) → List ℕ → Type 0
IsRunText carried tables machine scripts text =
    (h : List Event) × (w : World) × RanSideBySide carried (setup_of tables machine scripts) h w × (text ≡ run_text tables h w)

-- the same where they stand still, with what is said of who waits
abbrev pub IsStuckText : (Ticket → Type 0) → List ℕ → Tables → Machine → List (List Command) → List ℕ → Type 0
IsStuckText carried waits tables machine scripts text =
    (h : List Event) × (w : World) × RanStuck carried (setup_of tables machine scripts) h w × (text ≡ run_text tables h w) × (waits ≡ stuck_text w)

-- the words and the files ask for this text: that of a run to the end of all scripts
abbrev pub Asks : (Ticket → Type 0) → Option Form → Option Files → List ℕ → Type 0
Asks carried form told text = AsksSideBySide (λ tables machine scripts. IsRunText carried tables machine scripts text) form told

-- or that of a run until they stand still, with these lines
abbrev pub AsksStuck : (Ticket → Type 0) → Option Form → Option Files → List ℕ → List ℕ → Type 0
AsksStuck carried form told waits text = AsksSideBySide (λ tables machine scripts. IsStuckText carried waits tables machine scripts text) form told

-- the scripts of these inputs ran side by side, and this is left
abbrev pub HasRun : (Ticket → Type 0) → Inputs → FinishedShown → Type 0
HasRun carried inputs left = OfSideBySide (λ tables machine scripts. HasRunOut carried (setup_of tables machine scripts) left) inputs

-- the scripts of these inputs ran side by side, and this is left, or memory ran out
abbrev pub RanFor : (Ticket → Type 0) → Inputs → Result FinishedShown Status → Type 0
RanFor carried inputs (std.Ok left) = HasRun carried inputs left
RanFor carried inputs (std.Err status) = status ≡ Memory

-- the text of a run that is over
abbrev pub left_text : FinishedShown → List ℕ
left_text left = run_text left.board.world.setup.tables left.board.events left.board.world

-- what is printed of the run is what is asked for, to the end or until the scripts stand still, or the words or the files are refused
abbrev pub FindsRun : (Ticket → Type 0) → Option Form → Option Files → Result FinishedShown Status → Type 0
FindsRun carried form told (std.Ok left) =
    FindsText (Asks carried form told) (AsksStuck carried form told) (HaveEnded left) (stuck_text left.board.world) (left_text left)
FindsRun carried form told (std.Err status) = IsRefused form told status

-- the status by how the run is left and how writing it ended
abbrev pub EndsWith : {A : Type 0} → FinishedShown → Result A OutputStop → Status → Type 0
EndsWith left written status = still.EndsWith (HaveEnded left) (stuck_text left.board.world) written status

-- why the program answers so, and what its output then got
abbrev pub Explains : (Ticket → Type 0) → Option Form → Option Files → Told → Told → Status → Type 0
Explains carried form told old new status = still.Explains (Asks carried form told) (AsksStuck carried form told) (IsRefused form told) old new status

-- the status is the one that they call for, or scripts stand still where it is `Ok`
abbrev pub IsDueStatus : Option Form → Files → Status → Type 0
IsDueStatus form files status = still.IsDueStatus IsStuckStatus (CallsFor form files) status

-- the same, or memory ran out
abbrev pub IsDueOr : Option Form → Files → Status → Type 0
IsDueOr form files status = OrMemory (IsDueStatus form files) status

-- what `drvrun` says of its own
abbrev pub drvrun_does : (Ticket → Type 0) → List (List ℕ) → Does
drvrun_does carried words = record {
  Explains = Explains carried (drvrun_form words);
  CallsFor = IsDueStatus (drvrun_form words);
  AsksFor = AsksInputs (drvrun_form words);
  err_text = err_text Drvrun words;
}
