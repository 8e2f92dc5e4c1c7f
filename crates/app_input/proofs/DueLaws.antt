-- Where no fault of reading was counted, what was read or refused is what is due.
use Rattle.std.proofs.Common.{◌≡◌, ℕ, ◌≤◌, ◌<◌, ◌⊎◌, inl, inr, true, false, Bool, List, length, Option, Some, None, ap, sym, ◌∙◌, refl, subst, if◌then◌else◌}
use Rattle.std.proofs.lemmas.Bool.{le-leb, lt-leb}
use Rattle.std.specs.Prelude as std
use Rattle.std.specs.Prelude.{Result, IfSome, codes, nat_le}
use Rattle.cf_types.specs.declared.machine.Command.{Command}
use Rattle.cf_types.specs.declared.machine.Machine.{Machine}
use Rattle.cf_types.specs.declared.tables.Refusal.{Refusal}
use Rattle.cf_types.specs.declared.tables.Tables.{Tables}
use Rattle.cf_io.specs.Faults.{Rose}
use Rattle.cf_io.specs.declared.files.TheConstants.{MAX_FILE}
use Rattle.config_rules.specs.Cut.{◌>>=◌}
use Rattle.config_rules.specs.Fault.{first_fault}
use Rattle.config_rules.specs.MachineText.{machine_of}
use Rattle.config_rules.specs.Meaning.{Means}
use Rattle.config_rules.specs.Reading.{Files}
use Rattle.app_input.specs.declared.inputs.Inputs.{Inputs}
use Rattle.app_input.specs.declared.inputs.Inputs.TheVariants.{Ioconf, Boot, Load, Follow, Play, Replay, Upgrade, Watch, Run}
use Rattle.app_input.specs.declared.inputs.Inputs.TheVariants as inputs
use Rattle.app_words.specs.declared.status.Status.{Status}
use Rattle.app_words.specs.declared.status.Status.TheVariants.{Ok, ConfigRefused, Usage, MachineRefused, ScriptRefused, HistoryRefused, Absent, TooLong, ReadFault, WriteFault, Memory, Stuck, Worlds, Unknown}
use Rattle.app_input.specs.declared.scripts.Course.{Course}
use Rattle.app_input.specs.declared.scripts.Course.TheVariants as courses
use Rattle.app_words.specs.declared.words.Task.{Task}
use Rattle.app_input.specs.Inputs.{IsDue, IsDueAt, IsDueIf, IsRefusedRun, IsRun, Reads, booted, booted_from, files_of, followed_with, given_by, inputs_at, inputs_by, refused_by, scripted_with, side_by_side_with, told_of}
use Rattle.app_words.specs.Status.{Counts}
use Rattle.app_input.specs.Plans.{plan_from}
use Rattle.live_rules.specs.declared.plan.Plan.{Plan}
use Rattle.app_input.specs.Scripted.{file_gives, scripts_of, task_of}
use Rattle.app_words.specs.Words.{Form, boot, config_of, following, ioconf, is_compiled, load, machine_in, scripted, side_by_side, sources}

-- where the files are told, those that a form speaks of are
at_files : (P : Files → Type 0) (form : Form) (files : Files) → IfSome (told_of form (Some files)) P → P (files_of form files)
at_files P (ioconf file) files holds = holds
at_files P (sources file) files holds = holds
at_files P (boot file name) files holds = holds
at_files P (load n) files holds = holds
at_files P (following file name plan) files holds = holds
at_files P (scripted task file name course names) files holds = holds
at_files P (side_by_side file name names) files holds = holds

-- what is due where the inputs are compiled
due_compiled : (form : Form) (files : Files) (answer : Result Inputs Status) → is_compiled form ≡ true
    → IsDueAt form (files_of form files) (first_fault (files_of form files) (config_of form)) answer → IsDue (Some form) files answer
due_compiled form files answer compiled due = subst (λ (b : Bool). IsDueIf b form (files_of form files) answer) (sym compiled) due

-- what the tables give is due
due_by_tables : (form : Form) (files : Files) (tables : Tables) (answer : Result Inputs Status) → is_compiled form ≡ true → Means (files_of form files) (config_of form) tables
    → answer ≡ given_by form (files_of form files) tables → IsDue (Some form) files answer
due_by_tables form files tables answer compiled meant given =
    due_compiled form files answer compiled (subst (λ (fault : Option Refusal). IsDueAt form (files_of form files) fault answer) (sym meant.accepted) (tables, meant, given))

-- the first fault is due
due_by_fault : (form : Form) (files : Files) (refusal : Refusal) → is_compiled form ≡ true → first_fault (files_of form files) (config_of form) ≡ Some refusal
    → IsDue (Some form) files (refused_by refusal)
due_by_fault form files refusal compiled fault =
    due_compiled form files (refused_by refusal) compiled
    (subst (λ (found : Option Refusal). IsDueAt form (files_of form files) found (refused_by refusal)) (sym fault) refl)

-- a form with a machine file is compiled
machine_compiled : (form : Form) (name : List ℕ) → machine_in form ≡ Some name → is_compiled form ≡ true
machine_compiled (ioconf file) name is = refl
machine_compiled (sources file) name is = absurd cc
machine_compiled (boot file machine) name is = refl
machine_compiled (load n) name is = refl
machine_compiled (following file machine plan) name is = refl
machine_compiled (scripted task file machine course names) name is = refl
machine_compiled (side_by_side file machine names) name is = refl

-- what a form with a machine file gives
machine_given : (form : Form) (files : Files) (name : List ℕ) (tables : Tables) → machine_in form ≡ Some name
    → (next : Machine → Result Inputs Status) × (given_by form files tables ≡ booted_from next tables name (files name))
machine_given (ioconf file) files name tables is = absurd cc
machine_given (sources file) files name tables is = absurd cc
machine_given (boot file other) files name tables is =
    let same : other ≡ name = cc in let next : Machine → Result Inputs Status = λ machine. std.Ok (Boot tables machine) in
    (next, ap (λ (x : List ℕ). booted_from next tables x (files x)) same)
machine_given (load n) files name tables is =
    let same : codes "mach" ≡ name = cc in let next : Machine → Result Inputs Status = λ machine. std.Ok (Load n tables machine) in
    (next, ap (λ (x : List ℕ). booted_from next tables x (files x)) same)
machine_given (following file other plan) files name tables is =
    let same : other ≡ name = cc in
    (followed_with files plan tables, ap (λ (x : List ℕ). booted_from (followed_with files plan tables) tables x (files x)) same)
machine_given (scripted task file other course names) files name tables is =
    let same : other ≡ name = cc in
    (scripted_with task files course names tables, ap (λ (x : List ℕ). booted_from (scripted_with task files course names tables) tables x (files x)) same)
machine_given (side_by_side file other names) files name tables is =
    let same : other ≡ name = cc in
    (side_by_side_with files names tables, ap (λ (x : List ℕ). booted_from (side_by_side_with files names tables) tables x (files x)) same)

-- what the machine file gives is due
due_by_machine : (form : Form) (files : Files) (name : List ℕ) (tables : Tables) (answer : Result Inputs Status) → machine_in form ≡ Some name
    → Means (files_of form files) (config_of form) tables → ((next : Machine → Result Inputs Status) → booted_from next tables name (files_of form files name) ≡ answer)
    → IsDue (Some form) files answer
due_by_machine form files name tables answer is meant gives =
    let given = machine_given form (files_of form files) name tables is in
    due_by_tables form files tables answer (machine_compiled form name is) meant (sym (given.1 ∙ gives given.0))

pub if_true : {A : Type 0} (a b : A) (test : Bool) → test ≡ true → (if test then a else b) ≡ a
if_true a b test e = rw e refl

pub if_false : {A : Type 0} (a b : A) (test : Bool) → test ≡ false → (if test then a else b) ≡ b
if_false a b test e = rw e refl

-- what a file gives that is short enough
pub whole_file : {A : Type 0} (by_text : List ℕ → Result A Status) (name text : List ℕ) (file : Option (List ℕ)) → file ≡ Some text → length text ≤ MAX_FILE
    → file_gives by_text name file ≡ by_text text
whole_file by_text name text file is short = rw is (if_true _ _ (nat_le (length text) MAX_FILE) (le-leb (length text) MAX_FILE short))

pub short_file : (next : Machine → Result Inputs Status) (tables : Tables) (name text : List ℕ) (file : Option (List ℕ)) → file ≡ Some text → length text ≤ MAX_FILE
    → booted_from next tables name file ≡ booted next (machine_of tables text)
short_file next tables name text file is short = whole_file (λ t. booted next (machine_of tables t)) name text file is short

-- a file that is too long
pub long_file : (next : Machine → Result Inputs Status) (tables : Tables) (name text : List ℕ) (file : Option (List ℕ)) → file ≡ Some text → MAX_FILE < length text
    → booted_from next tables name file ≡ std.Err (TooLong name)
long_file next tables name text file is long = rw is (if_false _ _ (nat_le (length text) MAX_FILE) (lt-leb (length text) MAX_FILE long))

-- what the scripts and the file with their course give is due, where the machine file describes a machine
due_by_run : (form : Option Form) (files : Files) (task : Task) (file name course : List ℕ) (names : List (List ℕ)) (tables : Tables) (machine : Machine) (text : List ℕ) (answer : Result Inputs Status)
    → form ≡ Some (scripted task file name course names) → Means files file tables → files name ≡ Some text → length text ≤ MAX_FILE → machine_of tables text ≡ std.Ok machine
    → scripted_with task files course names tables machine ≡ answer → IsDue form files answer
due_by_run form files task file name course names tables machine text answer is meant there short described gives =
    let next = scripted_with task files course names tables in
    rw is (due_by_tables (scripted task file name course names) files tables answer refl meant
    (sym (short_file next tables name text (files name) there short ∙ ap (booted next) described ∙ gives)))

due_run : (form : Option Form) (files : Files) (tables : Tables) (machine : Machine) (scripts : List (List Command)) (course : Course) → IsRun form (Some files) tables machine scripts course
    → IsDue form files (std.Ok (inputs_at tables machine scripts course))
due_run form files tables machine scripts course (file, name, at, names, is, meant, (text, there, short, described), gives) =
    due_by_run form files (task_of course) file name at names tables machine text (std.Ok (inputs_at tables machine scripts course)) is meant there short described
    (ap (λ r. r >>= λ p. std.Ok (inputs_by tables machine p)) gives)

-- what scripts side by side give is due, where the machine file describes a machine
due_side_by_side : (form : Option Form) (files : Files) (file name : List ℕ) (names : List (List ℕ)) (tables : Tables) (machine : Machine) (text : List ℕ) (given : Result (List (List Command)) Status)
    → form ≡ Some (side_by_side file name names) → Means files file tables → files name ≡ Some text → length text ≤ MAX_FILE → machine_of tables text ≡ std.Ok machine
    → scripts_of files names ≡ given → IsDue form files (given >>= λ scripts. std.Ok (Run tables machine scripts))
due_side_by_side form files file name names tables machine text given is meant there short described gives =
    let next = side_by_side_with files names tables in
    let answer : Result Inputs Status = given >>= λ scripts. std.Ok (Run tables machine scripts) in
    rw is (due_by_tables (side_by_side file name names) files tables answer refl meant
    (sym (short_file next tables name text (files name) there short ∙ ap (booted next) described ∙ ap (λ r. r >>= λ scripts. std.Ok (Run tables machine scripts)) gives)))

-- what a plan gives is due, where the machine file describes a machine
due_plan : (form : Option Form) (files : Files) (file name plan : List ℕ) (tables : Tables) (machine : Machine) (text : List ℕ) (given : Result Plan Status)
    → form ≡ Some (following file name plan) → Means files file tables → files name ≡ Some text → length text ≤ MAX_FILE → machine_of tables text ≡ std.Ok machine
    → plan_from files tables plan ≡ given → IsDue form files (given >>= λ p. std.Ok (Follow tables machine p))
due_plan form files file name plan tables machine text given is meant there short described gives =
    let next = followed_with files plan tables in
    let answer : Result Inputs Status = given >>= λ p. std.Ok (Follow tables machine p) in
    rw is (due_by_tables (following file name plan) files tables answer refl meant
    (sym (short_file next tables name text (files name) there short ∙ ap (booted next) described ∙ ap (λ r. r >>= λ p. std.Ok (Follow tables machine p)) gives)))

-- the refusal of a script, of the file with their course or of a plan is due
due_refused : (form : Option Form) (files : Files) (status : Status) → IsRefusedRun form (Some files) status → IsDue form files (std.Err status)
due_refused form files status (inl (task, tables, machine, (file, name, course, names, is, meant, (text, there, short, described), (gives, of)))) =
    due_by_run form files task file name course names tables machine text (std.Err status) is meant there short described
    (ap (λ r. r >>= λ p. std.Ok (inputs_by tables machine p)) gives)
due_refused form files status (inr (inl (tables, machine, (file, name, names, is, meant, (text, there, short, described), (gives, of))))) =
    due_side_by_side form files file name names tables machine text (std.Err status) is meant there short described gives
due_refused form files status (inr (inr (tables, machine, (file, name, plan, is, meant, (text, there, short, described), (gives, of))))) =
    due_plan form files file name plan tables machine text (std.Err status) is meant there short described gives

due : (form : Option Form) (files : Files) (before after : ℕ) (answer : Result Inputs Status) → Reads form (Some files) answer → Counts before after answer
    → ¬ Rose before after → (answer ≡ std.Err Memory) ⊎ IsDue form files answer
due form files before after (std.Ok (Ioconf tables)) (file, is, meant) counts quiet = inr (rw is (due_by_tables (ioconf file) files tables (std.Ok (Ioconf tables)) refl meant refl))
due form files before after (std.Ok (inputs.Files name)) is counts quiet = inr (rw is refl)
due form files before after (std.Ok (Boot tables machine)) (file, name, is, meant, (text, there, short, described)) counts quiet =
    inr (rw is (due_by_tables (boot file name) files tables (std.Ok (Boot tables machine)) refl meant
    (sym (short_file (λ m. std.Ok (Boot tables m)) tables name text (files name) there short ∙ ap (booted (λ m. std.Ok (Boot tables m))) described))))
due form files before after (std.Ok (Load n tables machine)) (is, (meant, (text, there, short, described))) counts quiet =
    inr (rw is (due_by_tables (load n) files tables (std.Ok (Load n tables machine)) refl meant
    (sym (short_file (λ m. std.Ok (Load n tables m)) tables (codes "mach") text _ there short ∙ ap (booted (λ m. std.Ok (Load n tables m))) described))))
due form files before after (std.Ok (Follow tables machine plan)) (file, name, at, is, meant, (text, there, short, described), gives) counts quiet =
    inr (due_plan form files file name at tables machine text (std.Ok plan) is meant there short described gives)
due form files before after (std.Ok (Play tables machine scripts order)) run counts quiet = inr (due_run form files tables machine scripts (courses.Play order) run)
due form files before after (std.Ok (Replay tables machine scripts history)) run counts quiet = inr (due_run form files tables machine scripts (courses.Replay history) run)
due form files before after (std.Ok (Upgrade tables machine scripts history)) run counts quiet = inr (due_run form files tables machine scripts (courses.Upgrade history) run)
due form files before after (std.Ok (Watch tables machine scripts lines)) run counts quiet = inr (due_run form files tables machine scripts (courses.Watch lines) run)
due form files before after (std.Ok (Run tables machine scripts)) (file, name, names, is, meant, (text, there, short, described), gives) counts quiet =
    inr (due_side_by_side form files file name names tables machine text (std.Ok scripts) is meant there short described gives)
due form files before after (std.Err (ScriptRefused which line code)) refused counts quiet = inr (due_refused form files (ScriptRefused which line code) refused)
due form files before after (std.Err (Absent absent)) (inr refused) counts quiet = inr (due_refused form files (Absent absent) refused)
due form files before after (std.Err (TooLong long)) (inr refused) counts quiet = inr (due_refused form files (TooLong long) refused)
due form files before after (std.Err (ConfigRefused file line code)) (f, is, compiled, fault) counts quiet =
    let refusal : Refusal = record { file = file; line = line; code = code } in
    inr (rw is (due_by_fault f files refusal compiled (at_files (λ named. first_fault named (config_of f) ≡ Some refusal) f files fault)))
due form files before after (std.Err Usage) is counts quiet = inr (rw is refl)
due form files before after (std.Err (MachineRefused line code)) (f, name, tables, is, named, meant, described) counts quiet =
    let found = at_files (λ named. (text : List ℕ) × (named name ≡ Some text) × (length text ≤ MAX_FILE) × (machine_of tables text ≡ std.Err (line, code))) f files described in
    inr (rw is (due_by_machine f files name tables (std.Err (MachineRefused line code)) named (at_files (λ named. Means named (config_of f) tables) f files meant)
    (λ next. short_file next tables name found.0 (files_of f files name) found.1 found.2 ∙ ap (booted next) found.3)))
due form files before after (std.Err (Absent absent)) (inl (f, name, tables, is, named, meant, (same, lacking))) counts quiet =
    let none = at_files (λ named. named name ≡ None) f files lacking in
    inr (rw is (due_by_machine f files name tables (std.Err (Absent absent)) named (at_files (λ named. Means named (config_of f) tables) f files meant)
    (λ next. ap (booted_from next tables name) none ∙ ap (λ (n : List ℕ). std.Err (Absent n)) (sym same))))
due form files before after (std.Err (TooLong long)) (inl (f, name, tables, is, named, meant, (same, big))) counts quiet =
    let found = at_files (λ named. (text : List ℕ) × (named name ≡ Some text) × (MAX_FILE < length text)) f files big in
    inr (rw is (due_by_machine f files name tables (std.Err (TooLong long)) named (at_files (λ named. Means named (config_of f) tables) f files meant)
    (λ next. long_file next tables name found.0 (files_of f files name) found.1 found.2 ∙ ap (λ (n : List ℕ). std.Err (TooLong n)) (sym same))))
due form files before after (std.Err ReadFault) reads counts quiet = absurd (quiet counts.1)
due form files before after (std.Err Ok) never counts quiet = elim never [ ]
due form files before after (std.Err WriteFault) never counts quiet = elim never [ ]
due form files before after (std.Err (HistoryRefused line)) never counts quiet = elim never [ ]
due form files before after (std.Err (Stuck waits)) never counts quiet = elim never [ ]
due form files before after (std.Err (Worlds most)) never counts quiet = elim never [ ]
due form files before after (std.Err (Unknown name)) never counts quiet = elim never [ ]
due form files before after (std.Err Memory) reads counts quiet = inl refl

-- the same where the files are told
pub due_told : (form : Option Form) (told : Option Files) (before after : ℕ) (answer : Result Inputs Status) → Reads form told answer → Counts before after answer
    → IfSome told (λ files. ¬ Rose before after → (answer ≡ std.Err Memory) ⊎ IsDue form files answer)
due_told form (Some files) before after answer reads counts = due form files before after answer reads counts
due_told form None before after answer reads counts = tt
