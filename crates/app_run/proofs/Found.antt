-- What was found for the words and the files, and the status that is due.
use Rattle.std.proofs.Common.{inl, inr, ◌≡◌, ℕ, Option, refl, sym, ap, subst}
use Rattle.std.specs.Prelude.{◌⊎◌, IfSome, Result}
use Rattle.std.specs.Prelude as std
use Rattle.cf_io.specs.Faults.{Rose}
use Rattle.cf_types.specs.declared.machine.Ticket.{Ticket}
use Rattle.config_rules.specs.Reading.{Files}
use Rattle.board_lock.specs.Boards.{FinishedShown}
use Rattle.run_rules.specs.declared.world.Setup.{Setup}
use Rattle.app_input.specs.Inputs.{FormedInputs, IsDue, Reads}
use Rattle.app_input.specs.SideBySide.{AsksSideBySide, CallsFor}
use Rattle.app_input.proofs.SideBySide.{answer, asks_by, due_read, refusal}
use Rattle.app_input.proofs.SideBySide as side
use Rattle.app_words.specs.Status.{Counts, status_of}
use Rattle.app_words.specs.Words.{Form}
use Rattle.app_input.specs.declared.inputs.Inputs.{Inputs}
use Rattle.app_words.specs.declared.status.Status.{Status}
use Rattle.app_words.specs.declared.status.Status.TheVariants.{Ok, Memory}
use Rattle.app_output.specs.RunText.{run_text}
use Rattle.run_rules.specs.World.{setup_of}
use Rattle.app_run.specs.Asked.{FindsRun, HasRun, IsDueOr, RanFor, left_text}
use Rattle.app_run.specs.Ran.{HasRunOut, RanTogether}

-- what is left of a run of the scripts that are asked for
abbrev pub AsksLeft : (Ticket → Type 0) → Option Form → Option Files → FinishedShown → Type 0
AsksLeft P form told left = AsksSideBySide (λ tables machine scripts. HasRunOut P (setup_of tables machine scripts) left) form told

-- it has the text that is asked for
left_is : (P : Ticket → Type 0) (s : Setup) (left : FinishedShown) → RanTogether P s left.board.events left.board.world → left_text left ≡ run_text s.tables left.board.events left.board.world
left_is P s left ran = ap (λ (x : Setup). run_text x.tables left.board.events left.board.world) ran.made

asked_by : (P : Ticket → Type 0) (form : Option Form) (told : Option Files) (left : FinishedShown) (asks : AsksLeft P form told left)
    → HasRunOut P (setup_of asks.tables asks.machine asks.scripts) left → FindsRun P form told (std.Ok left)
asked_by P form told left asks (inl (all, ran)) =
    inl (
      all,
      record {
        tables = asks.tables;
        machine = asks.machine;
        scripts = asks.scripts;
        read = asks.read;
        formed = asks.formed;
        holds = (left.board.events, left.board.world, ran, left_is P (setup_of asks.tables asks.machine asks.scripts) left ran.together);
      },
    )
asked_by P form told left asks (inr (some, ran)) =
    inr (
      some,
      record {
        tables = asks.tables;
        machine = asks.machine;
        scripts = asks.scripts;
        read = asks.read;
        formed = asks.formed;
        holds = (left.board.events, left.board.world, ran, left_is P (setup_of asks.tables asks.machine asks.scripts) left ran.together, refl);
      },
    )

asks_left : (P : Ticket → Type 0) (form : Option Form) (told : Option Files) (inputs : Inputs) (left : FinishedShown) → Reads form told (std.Ok inputs) → FormedInputs inputs → HasRun P inputs left
    → AsksLeft P form told left
asks_left P form told inputs left read formed ran = asks_by (λ tables machine scripts. HasRunOut P (setup_of tables machine scripts) left) form told inputs read formed ran

-- what was found for the words and the files
pub found_by : (P : Ticket → Type 0) (form : Option Form) (told : Option Files) (inputs : Inputs) (result : Result FinishedShown Status) → Reads form told (std.Ok inputs) → FormedInputs inputs
    → RanFor P inputs result → FindsRun P form told result
found_by P form told inputs (std.Ok left) read formed ran = let asks = asks_left P form told inputs left read formed ran in asked_by P form told left asks asks.holds
found_by P form told inputs (std.Err status) read formed want = subst (λ (s : Status). Reads form told (std.Err s)) (sym want) tt

-- no file is read behind the inputs
pub counted_by : (P : Ticket → Type 0) (before after : ℕ) (inputs : Inputs) (result : Result FinishedShown Status) → Counts before after (answer inputs) → RanFor P inputs result
    → Counts before after result
counted_by P before after inputs (std.Ok left) counts ran = counts
counted_by P before after inputs (std.Err status) counts want = subst (λ (s : Status). Counts {A = FinishedShown} before after (std.Err s)) (sym want) counts

-- the status that is due where inputs were read: all was written, or memory ran out
due_found : (P : Ticket → Type 0) (form : Option Form) (files : Files) (inputs : Inputs) (result : Result FinishedShown Status) → RanFor P inputs result → CallsFor form files Ok
    → IsDueOr form files (status_of result)
due_found P form files inputs (std.Ok left) ran calls = inr (inl calls)
due_found P form files inputs (std.Err status) want calls = inl want

pub due_by : (P : Ticket → Type 0) (told : Option Files) (form : Option Form) (before after : ℕ) (inputs : Inputs) (result : Result FinishedShown Status) → RanFor P inputs result
    → IfSome told (λ files. ¬ Rose before after → (answer inputs ≡ std.Err Memory) ⊎ IsDue form files (answer inputs))
    → IfSome told (λ files. ¬ Rose before after → IsDueOr form files (status_of result))
due_by P told form before after inputs result ran due =
    due_read (λ files. IsDueOr form files (status_of result)) told form before after inputs (λ files calls. due_found P form files inputs result ran calls) due

-- where they were refused
due_as : (form : Option Form) (files : Files) (status : Status) → (status ≡ Memory) ⊎ CallsFor form files status → IsDueOr form files status
due_as form files status (inl want) = inl want
due_as form files status (inr calls) = inr (inl calls)

pub due_refused : (told : Option Files) (form : Option Form) (before after : ℕ) (status : Status)
    → IfSome told (λ files. ¬ Rose before after → (refusal status ≡ refusal Memory) ⊎ IsDue form files (refusal status))
    → IfSome told (λ files. ¬ Rose before after → IsDueOr form files status)
due_refused told form before after status due =
    side.due_refused (λ files. IsDueOr form files status) told form before after status (λ files calls. due_as form files status calls) due
