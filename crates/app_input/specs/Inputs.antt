-- What the words and the files call for, and what reading them answers.
use Rattle.std.specs.Prelude.{◌≡◌, ℕ, ◌<◌, ◌≤◌, ◌⊎◌, Bool, true, false, Option, Some, None, IfSome, Result, List, [], ◌∷◌, length, codes, ⊤}
use Rattle.std.specs.Prelude as std
use Rattle.cf_types.specs.declared.machine.Command.{Command}
use Rattle.cf_types.specs.declared.machine.Machine.{Machine}
use Rattle.cf_types.specs.declared.tables.Refusal.{Refusal}
use Rattle.cf_types.specs.declared.tables.Tables.{Tables}
use Rattle.cf_io.specs.declared.file.MemFile.{MemFile}
use Rattle.cf_io.specs.declared.files.TheConstants.{MAX_FILE}
use Rattle.cf_io.specs.Memory.{file_named}
use Rattle.config_rules.specs.Cut.{◌>>=◌}
use Rattle.config_rules.specs.Fault.{first_fault}
use Rattle.config_rules.specs.Formed.{FittingMachine, FormedTables}
use Rattle.config_rules.specs.MachineText.{machine_of}
use Rattle.config_rules.specs.Meaning.{Means}
use Rattle.config_rules.specs.Reading.{Files}
use Rattle.live_rules.specs.declared.plan.Plan.{Plan}
use Rattle.live_rules.specs.PlanText.{FormedPlan}
use Rattle.load_maker.specs.Generated.{conf_text, machine_text}
use Rattle.app_input.specs.declared.inputs.Inputs.{Inputs}
use Rattle.app_input.specs.declared.inputs.Inputs.TheVariants.{Ioconf, Boot, Load, Follow, Play, Replay, Upgrade, Watch, Run}
use Rattle.app_input.specs.declared.inputs.Inputs.TheVariants as inputs
use Rattle.app_words.specs.declared.program.Program.{Program}
use Rattle.app_words.specs.declared.program.Program.TheVariants.{Devconf, Drvrun, Drvall, Devwhy}
use Rattle.app_words.specs.declared.status.Status.{Status}
use Rattle.app_words.specs.declared.status.Status.TheVariants.{Ok, ConfigRefused, Usage, MachineRefused, ScriptRefused, HistoryRefused, Absent, TooLong, ReadFault, WriteFault, Memory, Stuck, Worlds, Unknown}
use Rattle.app_input.specs.declared.scripts.Course.{Course}
use Rattle.app_input.specs.declared.scripts.Course.TheVariants as courses
use Rattle.app_input.specs.declared.scripts.Scripted.{Scripted}
use Rattle.app_words.specs.declared.words.Task.{Task}
use Rattle.app_input.specs.Plans.{plan_from}
use Rattle.app_input.specs.Scripted.{FormedRun, FormedScripts, IsOfFile, IsOfScript, IsOfScripted, file_gives, scripted_of, scripts_of, task_of}
use Rattle.app_words.specs.Words.{Form, ioconf, sources, boot, load, following, scripted, side_by_side, config_of, is_compiled, is_from_outside, machine_in}

-- the generated files of a machine with so many spots
unfoldable pub made_files : ℕ → List MemFile
made_files n = record { name = codes "conf"; bytes = conf_text } ∷ record { name = codes "mach"; bytes = machine_text n } ∷ []

-- the files that a form speaks of, where they are told: generated ones are
abbrev pub told_of : Form → Option Files → Option Files
told_of (ioconf file) told = told
told_of (sources file) told = told
told_of (boot file machine) told = told
told_of (following file machine plan) told = told
told_of (scripted task file machine course scripts) told = told
told_of (side_by_side file machine scripts) told = told
told_of (load n) told = Some (file_named (made_files n))

-- the files that a form speaks of
abbrev pub files_of : Form → Files → Files
files_of (ioconf file) files = files
files_of (sources file) files = files
files_of (boot file machine) files = files
files_of (following file machine plan) files = files
files_of (scripted task file machine course scripts) files = files
files_of (side_by_side file machine scripts) files = files
files_of (load n) files = file_named (made_files n)

-- where the files are told, the configuration means the tables
abbrev pub IsMeant : Option Files → List ℕ → Tables → Type 0
IsMeant told file tables = IfSome told (λ files. Means files file tables)

-- where the files are told, the machine file is there, has no more bytes than a file may have, and describes this with the tables
abbrev pub IsDescribed : Option Files → List ℕ → Tables → Result Machine (ℕ × ℕ) → Type 0
IsDescribed told name tables described =
    IfSome told (λ files. (text : List ℕ) × (files name ≡ Some text) × (length text ≤ MAX_FILE) × (machine_of tables text ≡ described))

-- where the files are told, this is the first fault of the configuration
abbrev pub IsFirstFault : Option Files → List ℕ → Refusal → Type 0
IsFirstFault told file refusal = IfSome told (λ files. first_fault files file ≡ Some refusal)

-- where the files are told, there is none of this name
abbrev pub IsLacking : Option Files → List ℕ → Type 0
IsLacking told name = IfSome told (λ files. files name ≡ None)

-- where the files are told, that of this name has more bytes than a file may have
abbrev pub IsLong : Option Files → List ℕ → Type 0
IsLong told name = IfSome told (λ files. (text : List ℕ) × (files name ≡ Some text) × (MAX_FILE < length text))

-- why a file was loaded whole, or refused
abbrev pub ReadsFile : Option Files → List ℕ → Result (List ℕ) Status → Type 0
ReadsFile told name (std.Ok text) = (length text ≤ MAX_FILE) × IfSome told (λ files. files name ≡ Some text)
ReadsFile told name (std.Err (Absent absent)) = (absent ≡ name) × IsLacking told name
ReadsFile told name (std.Err (TooLong long)) = (long ≡ name) × IsLong told name
ReadsFile told name (std.Err ReadFault) = ⊤
ReadsFile told name (std.Err Memory) = ⊤
ReadsFile told name (std.Err _) = ⊥

-- why the configuration was read as tables, or refused
abbrev pub ReadsTables : Option Files → List ℕ → Result Tables Status → Type 0
ReadsTables told file (std.Ok tables) = IsMeant told file tables
ReadsTables told file (std.Err (ConfigRefused name line code)) = IsFirstFault told file (record { file = name; line = line; code = code })
ReadsTables told file (std.Err ReadFault) = ⊤
ReadsTables told file (std.Err Memory) = ⊤
ReadsTables told file (std.Err _) = ⊥

-- why the machine file was read as a machine of the tables, or refused
abbrev pub ReadsMachine : Option Files → List ℕ → Tables → Result Machine Status → Type 0
ReadsMachine told name tables (std.Ok machine) = IsDescribed told name tables (std.Ok machine)
ReadsMachine told name tables (std.Err (MachineRefused line code)) = IsDescribed told name tables (std.Err (line, code))
ReadsMachine told name tables (std.Err (Absent absent)) = (absent ≡ name) × IsLacking told name
ReadsMachine told name tables (std.Err (TooLong long)) = (long ≡ name) × IsLong told name
ReadsMachine told name tables (std.Err ReadFault) = ⊤
ReadsMachine told name tables (std.Err Memory) = ⊤
ReadsMachine told name tables (std.Err _) = ⊥

-- the status tells that the file is absent, or memory ran out
abbrev pub IsAbsent : List ℕ → Status → Type 0
IsAbsent name status = (status ≡ Absent name) ⊎ (status ≡ Memory)

-- the status tells that the file is too long, or memory ran out
abbrev pub IsTooLong : List ℕ → Status → Type 0
IsTooLong name status = (status ≡ TooLong name) ⊎ (status ≡ Memory)

-- the machine that a text describes, or its first bad line with its code, or memory ran out
abbrev pub Describes : Result Machine (ℕ × ℕ) → Result Machine Status → Type 0
Describes described (std.Ok machine) = described ≡ std.Ok machine
Describes described (std.Err (MachineRefused line code)) = described ≡ std.Err (line, code)
Describes described (std.Err Memory) = ⊤
Describes described (std.Err _) = ⊥

-- the words ask for a boot, the configuration means the tables, and P holds of the files and the machine file with them
abbrev pub Boots : Option Form → Option Files → (Option Files → List ℕ → Tables → Type 0) → Type 0
Boots form told P =
    (f : Form) × (name : List ℕ) × (tables : Tables) × (form ≡ Some f) × (machine_in f ≡ Some name) × IsMeant (told_of f told) (config_of f) tables
    × P (told_of f told) name tables

-- the words ask for this task, the configuration means the tables, the machine file describes the machine with them, and P
-- holds of the names of the scripts and of the file with their course
abbrev pub Runs : Task → Option Form → Option Files → Tables → Machine → (List (List ℕ) → List ℕ → Type 0) → Type 0
Runs task form told tables machine P =
    (file name course : List ℕ) × (names : List (List ℕ)) × (form ≡ Some (scripted task file name course names)) × IsMeant told file tables
    × IsDescribed told name tables (std.Ok machine) × P names course

-- where the files are told, the scripts and the file with their course give this
abbrev pub IsScripted : Task → Option Files → Result Scripted Status → List (List ℕ) → List ℕ → Type 0
IsScripted task told given names course = IfSome told (λ files. scripted_of task files names course ≡ given)

-- they give this
abbrev pub IsRun : Option Form → Option Files → Tables → Machine → List (List Command) → Course → Type 0
IsRun form told tables machine scripts course =
    Runs (task_of course) form told tables machine (IsScripted (task_of course) told (std.Ok (record { scripts = scripts; course = course })))

-- the words ask for scripts side by side, the configuration means the tables, the machine file describes the machine with
-- them, and P holds of the names of the scripts
abbrev pub RunsSideBySide : Option Form → Option Files → Tables → Machine → (List (List ℕ) → Type 0) → Type 0
RunsSideBySide form told tables machine P =
    (file name : List ℕ) × (names : List (List ℕ)) × (form ≡ Some (side_by_side file name names)) × IsMeant told file tables
    × IsDescribed told name tables (std.Ok machine) × P names

-- where the files are told, the scripts give this
abbrev pub AreScripts : Option Files → Result (List (List Command)) Status → List (List ℕ) → Type 0
AreScripts told given names = IfSome told (λ files. scripts_of files names ≡ given)

-- the words ask for a plan, the configuration means the tables, the machine file describes the machine with them, and P holds of
-- the name of the plan
abbrev pub Follows : Option Form → Option Files → Tables → Machine → (List ℕ → Type 0) → Type 0
Follows form told tables machine P =
    (file name plan : List ℕ) × (form ≡ Some (following file name plan)) × IsMeant told file tables × IsDescribed told name tables (std.Ok machine) × P plan

-- where the files are told, the plan file gives this
abbrev pub IsPlan : Option Files → Tables → Result Plan Status → List ℕ → Type 0
IsPlan told tables given name = IfSome told (λ files. plan_from files tables name ≡ given)

-- the scripts or the file with their course are refused so
abbrev pub IsRefusedScripted : Option Form → Option Files → Status → Type 0
IsRefusedScripted form told status =
    (task : Task) × (tables : Tables) × (machine : Machine)
    × Runs task form told tables machine (λ names course. IsScripted task told (std.Err status) names course × IsOfScripted names course status)

-- the scripts that are to run side by side are refused so
abbrev pub IsRefusedSideBySide : Option Form → Option Files → Status → Type 0
IsRefusedSideBySide form told status =
    (tables : Tables) × (machine : Machine)
    × RunsSideBySide form told tables machine (λ names. AreScripts told (std.Err status) names × IsOfScript names status)

-- the plan is refused so
abbrev pub IsRefusedPlan : Option Form → Option Files → Status → Type 0
IsRefusedPlan form told status =
    (tables : Tables) × (machine : Machine) × Follows form told tables machine (λ name. IsPlan told tables (std.Err status) name × IsOfFile 0 name status)

-- the scripts are refused so, or the file with their course where there is one, or a plan
abbrev pub IsRefusedRun : Option Form → Option Files → Status → Type 0
IsRefusedRun form told status = IsRefusedScripted form told status ⊎ (IsRefusedSideBySide form told status ⊎ IsRefusedPlan form told status)

-- the generated configuration means the tables, and the generated machine file describes the machine with them
abbrev pub Made : ℕ → Tables → Machine → Type 0
Made n tables machine =
    IsMeant (Some (file_named (made_files n))) (codes "conf") tables × IsDescribed (Some (file_named (made_files n))) (codes "mach") tables (std.Ok machine)

-- why the words and the files were read as these inputs, or refused
abbrev pub Reads : Option Form → Option Files → Result Inputs Status → Type 0
Reads form told (std.Ok (Ioconf tables)) = (file : List ℕ) × (form ≡ Some (ioconf file)) × IsMeant told file tables
Reads form told (std.Ok (inputs.Files name)) = form ≡ Some (sources name)
Reads form told (std.Ok (Boot tables machine)) =
    (file name : List ℕ) × (form ≡ Some (boot file name)) × IsMeant told file tables × IsDescribed told name tables (std.Ok machine)
Reads form told (std.Ok (Load n tables machine)) = (form ≡ Some (load n)) × Made n tables machine
Reads form told (std.Ok (Follow tables machine plan)) = Follows form told tables machine (IsPlan told tables (std.Ok plan))
Reads form told (std.Ok (Play tables machine scripts order)) = IsRun form told tables machine scripts (courses.Play order)
Reads form told (std.Ok (Replay tables machine scripts history)) = IsRun form told tables machine scripts (courses.Replay history)
Reads form told (std.Ok (Upgrade tables machine scripts history)) = IsRun form told tables machine scripts (courses.Upgrade history)
Reads form told (std.Ok (Watch tables machine scripts lines)) = IsRun form told tables machine scripts (courses.Watch lines)
Reads form told (std.Ok (Run tables machine scripts)) = RunsSideBySide form told tables machine (AreScripts told (std.Ok scripts))
Reads form told (std.Err (ConfigRefused file line code)) =
    (f : Form) × (form ≡ Some f) × (is_compiled f ≡ true) × IsFirstFault (told_of f told) (config_of f) (record { file = file; line = line; code = code })
Reads form told (std.Err Usage) = form ≡ None
Reads form told (std.Err (MachineRefused line code)) = Boots form told (λ files name tables. IsDescribed files name tables (std.Err (line, code)))
Reads form told (std.Err (ScriptRefused which line code)) = IsRefusedRun form told (ScriptRefused which line code)
Reads form told (std.Err (Absent absent)) =
    Boots form told (λ files name tables. (absent ≡ name) × IsLacking files name) ⊎ IsRefusedRun form told (Absent absent)
Reads form told (std.Err (TooLong long)) =
    Boots form told (λ files name tables. (long ≡ name) × IsLong files name) ⊎ IsRefusedRun form told (TooLong long)
Reads form told (std.Err ReadFault) = (f : Form) × (form ≡ Some f) × (is_from_outside f ≡ true)
Reads form told (std.Err Memory) = ⊤
Reads form told (std.Err Ok) = ⊥
Reads form told (std.Err WriteFault) = ⊥
Reads form told (std.Err (HistoryRefused line)) = ⊥
Reads form told (std.Err (Stuck waits)) = ⊥
Reads form told (std.Err (Worlds most)) = ⊥
Reads form told (std.Err (Unknown name)) = ⊥

-- the tables are formed, the machine fits them, and the scripts and their course are formed
abbrev pub AreFormed : Tables → Machine → List (List Command) → Course → Type 0
AreFormed tables machine scripts course = FormedTables tables × FittingMachine tables machine × FormedRun (record { scripts = scripts; course = course })

-- the inputs are formed
abbrev pub FormedInputs : Inputs → Type 0
FormedInputs (Ioconf tables) = FormedTables tables
FormedInputs (inputs.Files name) = ⊤
FormedInputs (Boot tables machine) = FormedTables tables × FittingMachine tables machine
FormedInputs (Load n tables machine) = FormedTables tables × FittingMachine tables machine
FormedInputs (Follow tables machine plan) = FormedTables tables × FittingMachine tables machine × FormedPlan plan
FormedInputs (Play tables machine scripts order) = AreFormed tables machine scripts (courses.Play order)
FormedInputs (Replay tables machine scripts history) = AreFormed tables machine scripts (courses.Replay history)
FormedInputs (Upgrade tables machine scripts history) = AreFormed tables machine scripts (courses.Upgrade history)
FormedInputs (Watch tables machine scripts lines) = AreFormed tables machine scripts (courses.Watch lines)
FormedInputs (Run tables machine scripts) = FormedTables tables × FittingMachine tables machine × FormedScripts scripts

-- scripts that are to run side by side
abbrev pub IsSideBySide : Inputs → Type 0
IsSideBySide (Run tables machine scripts) = ⊤
IsSideBySide inputs = ⊥

-- the words of the program may ask for such inputs: scripts side by side are all that `drvrun` and `drvall` take, and `devwhy` takes the
-- tables of a configuration, or these and a machine
abbrev pub IsInputsOf : Program → Inputs → Type 0
IsInputsOf Devconf (Run tables machine scripts) = ⊥
IsInputsOf Devconf inputs = ⊤
IsInputsOf Drvrun inputs = IsSideBySide inputs
IsInputsOf Drvall inputs = IsSideBySide inputs
IsInputsOf Devwhy (Ioconf tables) = ⊤
IsInputsOf Devwhy (Boot tables machine) = ⊤
IsInputsOf Devwhy inputs = ⊥

-- what a machine file gives: what follows by its machine, or its refusal
abbrev pub booted : (Machine → Result Inputs Status) → Result Machine (ℕ × ℕ) → Result Inputs Status
booted next (std.Ok machine) = next machine
booted next (std.Err fault) = std.Err (MachineRefused fault.0 fault.1)

-- the same of a file that may be absent, or too long
abbrev pub booted_from : (Machine → Result Inputs Status) → Tables → List ℕ → Option (List ℕ) → Result Inputs Status
booted_from next tables name file = file_gives (λ text. booted next (machine_of tables text)) name file

-- the inputs of a course
abbrev pub inputs_at : Tables → Machine → List (List Command) → Course → Inputs
inputs_at tables machine scripts (courses.Play order) = Play tables machine scripts order
inputs_at tables machine scripts (courses.Replay history) = Replay tables machine scripts history
inputs_at tables machine scripts (courses.Upgrade history) = Upgrade tables machine scripts history
inputs_at tables machine scripts (courses.Watch lines) = Watch tables machine scripts lines

abbrev pub inputs_by : Tables → Machine → Scripted → Inputs
inputs_by tables machine p = inputs_at tables machine p.scripts p.course

-- what the scripts and the file with their course give behind a machine
abbrev pub scripted_with : Task → Files → List ℕ → List (List ℕ) → Tables → Machine → Result Inputs Status
scripted_with task files course names tables machine = scripted_of task files names course >>= λ p. std.Ok (inputs_by tables machine p)

-- what scripts side by side give behind a machine
abbrev pub side_by_side_with : Files → List (List ℕ) → Tables → Machine → Result Inputs Status
side_by_side_with files names tables machine = scripts_of files names >>= λ scripts. std.Ok (Run tables machine scripts)

-- what a plan gives behind a machine
abbrev pub followed_with : Files → List ℕ → Tables → Machine → Result Inputs Status
followed_with files name tables machine = plan_from files tables name >>= λ plan. std.Ok (Follow tables machine plan)

-- what a form gives where its configuration means the tables
abbrev pub given_by : Form → Files → Tables → Result Inputs Status
given_by (ioconf file) files tables = std.Ok (Ioconf tables)
given_by (sources file) files tables = std.Ok (inputs.Files file)
given_by (boot file name) files tables = booted_from (λ machine. std.Ok (Boot tables machine)) tables name (files name)
given_by (following file name plan) files tables = booted_from (followed_with files plan tables) tables name (files name)
given_by (load n) files tables = booted_from (λ machine. std.Ok (Load n tables machine)) tables (codes "mach") (files (codes "mach"))
given_by (scripted task file name course names) files tables = booted_from (scripted_with task files course names tables) tables name (files name)
given_by (side_by_side file name names) files tables = booted_from (side_by_side_with files names tables) tables name (files name)

-- the refusal of a configuration
abbrev pub refused_by : Refusal → Result Inputs Status
refused_by refusal = std.Err (ConfigRefused refusal.file refusal.line refusal.code)

-- the answer is the refusal of a configuration with this first fault, or what its tables give where there is none
abbrev pub IsDueAt : Form → Files → Option Refusal → Result Inputs Status → Type 0
IsDueAt form files None answer = (tables : Tables) × Means files (config_of form) tables × (answer ≡ given_by form files tables)
IsDueAt form files (Some refusal) answer = answer ≡ refused_by refusal

-- the answer is the one that a form and the files call for, where its inputs are compiled or not
abbrev pub IsDueIf : Bool → Form → Files → Result Inputs Status → Type 0
IsDueIf false form files answer = answer ≡ std.Ok (inputs.Files (config_of form))
IsDueIf true form files answer = IsDueAt form files (first_fault files (config_of form)) answer

-- the answer is the one that the words and the files call for
abbrev pub IsDue : Option Form → Files → Result Inputs Status → Type 0
IsDue None files answer = answer ≡ std.Err Usage
IsDue (Some form) files answer = IsDueIf (is_compiled form) form (files_of form files) answer
