-- Which files are due by the words, and how far they were asked for.
use Rattle.std.specs.Prelude.{◌≡◌, ℕ, ◌⊎◌, Bool, true, false, Option, Some, None, IfSome, is_some, if◌then◌else◌, Result, List, [], ◌∷◌, ◌++◌, length, map, ⊤}
use Rattle.std.specs.Prelude as std
use Rattle.std.specs.List.{enumerate_from}
use Rattle.std.specs.Result.{result_err}
use Rattle.cf_types.specs.declared.tables.Tables.{Tables}
use Rattle.cf_io.specs.Asked.{AsksFront}
use Rattle.cf_io.specs.Load.{asked_behind}
use Rattle.config_rules.specs.Meaning.{Means}
use Rattle.config_rules.specs.Reading.{Files, reading}
use Rattle.app_input.specs.Inputs.{booted_from}
use Rattle.app_input.specs.Plans.{plan_from}
use Rattle.app_input.specs.Scripted.{course_of, script_of}
use Rattle.app_words.specs.Words.{Form, ioconf, sources, boot, load, following, scripted, side_by_side, config_of, is_from_outside}
use Rattle.app_input.specs.declared.inputs.Inputs.TheVariants.{Boot}
use Rattle.app_words.specs.declared.status.Status.{Status}
use Rattle.app_words.specs.declared.words.Task.{Task}
use Rattle.app_words.specs.declared.status.Status.TheVariants.{ConfigRefused, ReadFault, Memory}

-- ---- the files that are due

-- a file by its name, and why it is refused, where it is
pub record DueFile : Type 0 where
  pub name : List ℕ
  pub refusal : Option Status

-- the file of this name, which gives this
abbrev pub giving : {A : Type 0} → List ℕ → Result A Status → DueFile
giving name result = record { name = name; refusal = result_err result }

-- the machine file of this name, which gives a boot by the tables
abbrev pub machine_file : Files → Tables → List ℕ → DueFile
machine_file files tables name = giving name (booted_from (λ machine. std.Ok (Boot tables machine)) tables name (files name))

-- the scripts with these names, numbered from n
abbrev pub script_files : Files → ℕ → List (List ℕ) → List DueFile
script_files files n names = map (λ s. giving s.1 (script_of files s.0 s.1)) (enumerate_from n names)

-- the scripts, and behind them the file with their course
abbrev pub scripted_files : Task → Files → List (List ℕ) → List ℕ → List DueFile
scripted_files task files names course = script_files files 1 names ++ giving course (course_of task files (length names) course) ∷ []

-- the plan with this name, which is read by the tables
abbrev pub plan_files : Tables → List ℕ → Files → List DueFile
plan_files tables name files = giving name (plan_from files tables name) ∷ []

-- the files behind a configuration that means these tables: the machine file, the scripts, the file with their course or a plan
abbrev pub files_behind : Form → Files → Tables → List DueFile
files_behind (ioconf file) files tables = []
files_behind (sources file) files tables = []
files_behind (boot file name) files tables = machine_file files tables name ∷ []
files_behind (load n) files tables = []
files_behind (following file name plan) files tables = machine_file files tables name ∷ plan_files tables plan files
files_behind (scripted task file name course scripts) files tables = machine_file files tables name ∷ scripted_files task files scripts course
files_behind (side_by_side file name scripts) files tables = machine_file files tables name ∷ script_files files 1 scripts

-- the names up to the first file that is refused
abbrev pub up_to_refused : List DueFile → List (List ℕ)
up_to_refused [] = []
up_to_refused (file ∷ files) = file.name ∷ (if is_some file.refusal then [] else up_to_refused files)

-- ---- how far they were asked for

-- the names that were asked for, where they are told
abbrev pub Names : Type 0
Names = Option (List (List ℕ))

-- the due files were asked for, in their order; or a front of them, where a file could not be read or memory ran out
abbrev pub IsAskedFor : List (List ℕ) → Status → Names → Names → Type 0
IsAskedFor due ReadFault old new = AsksFront due old new
IsAskedFor due Memory old new = AsksFront due old new
IsAskedFor due _ old new = new ≡ asked_behind old due

-- the configuration was refused, or may not have been read whole
abbrev pub StopsFirst : Status → Type 0
StopsFirst (ConfigRefused file line code) = ⊤
StopsFirst ReadFault = ⊤
StopsFirst Memory = ⊤
StopsFirst _ = ⊥

-- the files of the configuration were asked for, as reading it asks for them; and where it means tables those behind it, up to
-- the first that is refused
abbrev pub AsksForm : Form → Files → Status → Names → Names → Type 0
AsksForm form files status old new =
    let config = (reading files (config_of form)).asked in
    (StopsFirst status × IsAskedFor config status old new)
    ⊎ ((tables : Tables) × Means files (config_of form) tables × IsAskedFor (config ++ up_to_refused (files_behind form files tables)) status old new)

-- the same, where the inputs of a form come from outside and the files are told; otherwise no file was asked for
abbrev pub AsksIf : Bool → Form → Option Files → Status → Names → Names → Type 0
AsksIf false form told status old new = new ≡ old
AsksIf true form told status old new = IfSome told (λ files. AsksForm form files status old new)

-- what reading the inputs of the words asks for; words without a form ask for no file
abbrev pub AsksInputs : Option Form → Option Files → Status → Names → Names → Type 0
AsksInputs None told status old new = new ≡ old
AsksInputs (Some form) told status old new = AsksIf (is_from_outside form) form told status old new
