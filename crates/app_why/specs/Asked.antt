-- The text that the words and the files ask for, and why the program answers so.
use Rattle.std.specs.Prelude.{◌≡◌, ◌⊎◌, ℕ, Option, Some, None, Result, List, []}
use Rattle.std.specs.Prelude as std
use Rattle.cf_io.specs.Told.{Told}
use Rattle.cf_types.specs.Lines.{text_of}
use Rattle.cf_compile.specs.declared.known.Known.{Known}
use Rattle.cf_types.specs.declared.machine.Machine.{Machine}
use Rattle.config_rules.specs.Reading.{Files}
use Rattle.gone_rows.specs.Gone.{Stated}
use Rattle.run_rules.specs.World.{setup_of}
use Rattle.why_answers.specs.Answers.{IsAnswer}
use Rattle.why_answers.specs.Known.{known_answer}
use Rattle.app_input.specs.Asked.{AsksInputs}
use Rattle.app_input.specs.Explained.{FormedExplained, ReadsExplained}
use Rattle.app_input.specs.Inputs.{Reads}
use Rattle.app_input.specs.SideBySide.{CallsFor}
use Rattle.app_input.specs.declared.explained.Explained.{Explained}
use Rattle.app_words.specs.Words.{Form, asked_name, devwhy_form}
use Rattle.app_words.specs.declared.program.Program.TheVariants.{Devwhy}
use Rattle.app_words.specs.declared.status.Status.{Status}
use Rattle.app_words.specs.declared.status.Status.TheVariants.{Ok, Memory, Unknown}
use Rattle.app_output.specs.Ended.{OrMemory}
use Rattle.app_output.specs.Ended as ended
use Rattle.app_output.specs.Headline.{Does}
use Rattle.app_output.specs.Status.{err_text}
use Rattle.app_why.specs.declared.top.Why.{Why}

-- the files, statements and orphans of a configuration
abbrev pub stated_in : Known → Stated
stated_in known = record { files = known.files; placed = known.placed; orphans = known.orphans }

-- the lines for a name in a configuration alone, or those in the boot of a machine; none where the name is unknown
abbrev pub AnswersWith : List ℕ → Known → Option Machine → Option (List (List ℕ)) → Type 0
AnswersWith name known None answer = answer ≡ known_answer known.tables (stated_in known) name
AnswersWith name known (Some machine) answer = IsAnswer (setup_of known.tables machine []) (stated_in known) name answer

abbrev pub Answers : List ℕ → Explained → Option (List (List ℕ)) → Type 0
Answers name e answer = AnswersWith name e.known e.machine answer

-- the words and the files give a configuration with its statements, and maybe a machine, and this is the answer for the name
pub record AsksName (name : List ℕ) (answer : Option (List (List ℕ))) (form : Option Form) (told : Option Files) : Type 0 where
  pub explained : Explained
  pub read : ReadsExplained form told (std.Ok explained)
  pub formed : FormedExplained explained
  pub answers : Answers name explained answer

-- the words and the files ask for this text: the lines for the name
abbrev pub Asks : List ℕ → Option Form → Option Files → List ℕ → Type 0
Asks name form told text = (lines : List (List ℕ)) × AsksName name (Some lines) form told × (text ≡ text_of lines)

-- the words or the files are refused so, or the name is unknown
abbrev pub IsRefused : List ℕ → Option Form → Option Files → Status → Type 0
IsRefused name form told status = Reads form told (std.Err status) ⊎ ((status ≡ Unknown name) × AsksName name None form told)

-- the lines for the name by these were found, or memory ran out, or the name is unknown
abbrev pub WhyFor : List ℕ → Explained → Result Why Status → Type 0
WhyFor name e (std.Ok why) = Answers name e (Some why.lines)
WhyFor name e (std.Err status) = (status ≡ Memory) ⊎ ((status ≡ Unknown name) × Answers name e None)

-- they are what is asked for, or the words or the files are refused
abbrev pub FindsWhy : List ℕ → Option Form → Option Files → Result Why Status → Type 0
FindsWhy name form told (std.Ok why) = AsksName name (Some why.lines) form told
FindsWhy name form told (std.Err status) = IsRefused name form told status

-- why the program answers so, and what its output then got
abbrev pub Explains : List ℕ → Option Form → Option Files → Told → Told → Status → Type 0
Explains name form told old new status = ended.Explains (Asks name form told) (IsRefused name form told) old new status

-- the status is the one that the words and the files call for, or the name is unknown where it is `Ok`
abbrev pub IsDueStatus : List ℕ → Option Form → Files → Status → Type 0
IsDueStatus name form files status = CallsFor form files status ⊎ ((status ≡ Unknown name) × CallsFor form files Ok)

-- the same, or memory ran out
abbrev pub IsDueOr : List ℕ → Option Form → Files → Status → Type 0
IsDueOr name form files status = OrMemory (IsDueStatus name form files) status

-- what `devwhy` says of its own
abbrev pub devwhy_does : List (List ℕ) → Does
devwhy_does words = record {
  Explains = Explains (asked_name words) (devwhy_form words);
  CallsFor = IsDueStatus (asked_name words) (devwhy_form words);
  AsksFor = AsksInputs (devwhy_form words);
  err_text = err_text Devwhy words;
}
