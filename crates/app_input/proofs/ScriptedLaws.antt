-- What the scripts of a run give, one by one, and what their refusals and that of the file with their course come to.
use Rattle.std.proofs.Common.{◌≡◌, ℕ, ◌+◌, ◌<◌, ◌≤◌, inl, inr, true, List, [], ◌∷◌, ◌++◌, length, map, drop, get_or, append_assoc, append-nil, Option, Some, None, ap, sym, ◌∙◌, refl, subst}
use Rattle.std.specs.Prelude as std
use Rattle.std.specs.Prelude.{IfErr, IfOk, IfSome, Result, filter_map}
use Rattle.std.specs.List.{cons_option}
use Rattle.std.specs.Result.{result_err, result_ok}
use Rattle.std.proofs.lemmas.List.{drop_all, drop_more}
use Rattle.std.proofs.lemmas.Option.{slice_get-map, slice_get_read}
use Rattle.cf_types.specs.declared.machine.Command.{Command}
use Rattle.cf_types.specs.declared.machine.Machine.{Machine}
use Rattle.cf_types.specs.declared.tables.Tables.{Tables}
use Rattle.config_rules.specs.Cut.{◌>>=◌}
use Rattle.config_rules.specs.Formed.{FittingMachine, FormedTables}
use Rattle.config_rules.specs.Reading.{Files}
use Rattle.config_rules.specs.ScriptText.{order_of}
use Rattle.app_words.specs.declared.status.Status.{Status}
use Rattle.app_words.specs.declared.status.Status.TheVariants.{Ok, ConfigRefused, Usage, MachineRefused, ScriptRefused, HistoryRefused, Absent, TooLong, ReadFault, WriteFault, Memory, Stuck, Worlds, Unknown}
use Rattle.app_words.specs.declared.words.Task.{Task}
use Rattle.app_words.specs.declared.words.Task.TheVariants.{Play, Replay, Upgrade, Watch}
use Rattle.script_text.specs.WatchText.{watch_of}
use Rattle.app_input.specs.declared.scripts.Course.{Course}
use Rattle.app_input.specs.declared.scripts.Course.TheVariants as courses
use Rattle.app_input.specs.declared.scripts.Scripted.{Scripted}
use Rattle.app_input.specs.declared.inputs.Inputs.{Inputs}
use Rattle.app_input.specs.declared.inputs.Inputs.TheVariants as input
use Rattle.app_input.specs.Inputs.{AreFormed, FormedInputs, IsDescribed, IsMeant, IsRefusedRun, IsRun, Reads, ReadsFile, inputs_at, inputs_by}
use Rattle.app_input.specs.Scripted.{FormedRun, IsCalledFor, IsCourseOf, IsOfFile, IsOfScript, IsOfScripted, course_in, course_of, script_of, scripted_of, scripts_from, scripts_of, task_of, unless_bad_line, unless_refused}
use Rattle.app_words.specs.Words.{Form, is_from_outside, scripted, side_by_side}
use Rattle.app_input.proofs.DueLaws.{whole_file}

-- ---- the scripts

-- what these scripts and those of more names come to, numbered from n
abbrev continued : Files → ℕ → List (List Command) → List (List ℕ) → Result (List (List Command)) Status
continued files n scripts names =
    unless_refused (filter_map result_err (scripts_from files n names)) (scripts ++ filter_map result_ok (scripts_from files n names))

-- the same by what the first of the names gives
abbrev continued_by : Files → ℕ → List (List Command) → List (List ℕ) → Result (List Command) Status → Result (List (List Command)) Status
continued_by files n scripts more first =
    unless_refused (cons_option (result_err first) (filter_map result_err (scripts_from files (n + 1) more)))
    (scripts ++ cons_option (result_ok first) (filter_map result_ok (scripts_from files (n + 1) more)))

script_more : (files : Files) (n : ℕ) (scripts : List (List Command)) (name : List ℕ) (more : List (List ℕ)) (script : List Command) → script_of files n name ≡ std.Ok script
    → continued files (n + 1) (scripts ++ script ∷ []) more ≡ continued files n scripts (name ∷ more)
script_more files n scripts name more script is =
    ap (unless_refused (filter_map result_err (scripts_from files (n + 1) more))) (append_assoc scripts (script ∷ []) (filter_map result_ok (scripts_from files (n + 1) more)))
    ∙ ap (continued_by files n scripts more) (sym is)

script_stops : (files : Files) (n : ℕ) (scripts : List (List Command)) (name : List ℕ) (more : List (List ℕ)) (status : Status) → script_of files n name ≡ std.Err status
    → continued files n scripts (name ∷ more) ≡ std.Err status
script_stops files n scripts name more status is = ap (continued_by files n scripts more) is

-- the scripts so far and those of the other names are all
abbrev pub Continues : Option Files → List (List ℕ) → ℕ → List (List Command) → List (List ℕ) → Type 0
Continues told names n scripts more = IfSome told (λ files. continued files n scripts more ≡ scripts_of files names)

scripts_go_on : (told : Option Files) (names : List (List ℕ)) (n : ℕ) (scripts : List (List Command)) (name : List ℕ) (more : List (List ℕ)) (script : List Command)
    → Continues told names n scripts (name ∷ more) → IsCalledFor told (λ files. script_of files n name) (std.Ok script)
    → Continues told names (n + 1) (scripts ++ script ∷ []) more
scripts_go_on told names n scripts name more script so_far (inl e) = absurd (cc)
scripts_go_on told names n scripts name more script so_far (inr (inl e)) = absurd (cc)
scripts_go_on None names n scripts name more script so_far (inr (inr is)) = tt
scripts_go_on (Some files) names n scripts name more script so_far (inr (inr is)) = script_more files n scripts name more script is ∙ so_far

scripts_stop : (told : Option Files) (names : List (List ℕ)) (n : ℕ) (scripts : List (List Command)) (name : List ℕ) (more : List (List ℕ)) (status : Status)
    → Continues told names n scripts (name ∷ more) → IsCalledFor told (λ files. script_of files n name) (std.Err status)
    → IsCalledFor told (λ files. scripts_of files names) (std.Err status)
scripts_stop told names n scripts name more status so_far (inl e) = inl (cc)
scripts_stop told names n scripts name more status so_far (inr (inl e)) = inr (inl (cc))
scripts_stop None names n scripts name more status so_far (inr (inr is)) = inr (inr tt)
scripts_stop (Some files) names n scripts name more status so_far (inr (inr is)) = inr (inr (sym so_far ∙ script_stops files n scripts name more status is))

scripts_end : (told : Option Files) (names : List (List ℕ)) (n : ℕ) (scripts : List (List Command)) → Continues told names n scripts []
    → IsCalledFor told (λ files. scripts_of files names) (std.Ok scripts)
scripts_end None names n scripts so_far = inr (inr tt)
scripts_end (Some files) names n scripts so_far = inr (inr (sym so_far ∙ ap (λ (xs : List (List Command)). std.Ok xs) (append-nil scripts)))

-- the names from a place on
pub names_left : {X : Type 0} (f : X → List ℕ) (xs : List X) (i : ℕ) (x : X) → i < length xs → x ≡ get_or xs i x → map f (drop i xs) ≡ f x ∷ map f (drop (i + 1) xs)
names_left f xs i x h is = ap (map f) (drop_more xs i x h) ∙ ap (λ y. f y ∷ map f (drop (i + 1) xs)) (sym is)

pub of_script : {X : Type 0} (f : X → List ℕ) (xs : List X) (i : ℕ) (x : X) (status : Status) → i < length xs → x ≡ get_or xs i x → IsOfFile (i + 1) (f x) status
    → IsOfScript (map f xs) status
of_script f xs i x status h is of = (i, f x, slice_get-map f xs i ∙ ap (std.option_map f) (slice_get_read xs (length xs) i x refl h is), of)

-- the same at a place of the names, where the files that are read are those that are told
pub called_at : (told reading : Option Files) (n : ℕ) (name given : List ℕ) (answer : Result (List Command) Status) → reading ≡ told → name ≡ given
    → IsCalledFor reading (λ files. script_of files n name) answer → IsCalledFor told (λ files. script_of files n given) answer
called_at told reading n name given answer same is called =
    let P : Option Files → Type 0 = λ r. IsCalledFor r (λ files. script_of files n given) answer in
    let Q : List ℕ → Type 0 = λ g. IsCalledFor reading (λ files. script_of files n g) answer in
    subst P same (subst Q is called)

pub one_more_script : {X : Type 0} (f : X → List ℕ) (told reading : Option Files) (names : List X) (i n : ℕ) (x : X) (name : List ℕ) (scripts grown : List (List Command)) (script : List Command)
    → i < length names → x ≡ get_or names i x → reading ≡ told → name ≡ f x → grown ≡ scripts ++ script ∷ [] → Continues told (map f names) n scripts (map f (drop i names))
    → IsCalledFor reading (λ files. script_of files n name) (std.Ok script) → Continues told (map f names) (n + 1) grown (map f (drop (i + 1) names))
one_more_script f told reading names i n x name scripts grown script h is same named grew so_far called =
    let more = map f (drop (i + 1) names) in
    let P : List (List Command) → Type 0 = λ g. Continues told (map f names) (n + 1) g more in
    let Q : List (List ℕ) → Type 0 = Continues told (map f names) n scripts in
    subst P (sym grew)
    (scripts_go_on told (map f names) n scripts (f x) more script (subst Q (names_left f names i x h is) so_far)
    (called_at told reading n name (f x) (std.Ok script) same named called))

pub no_more_scripts : {X : Type 0} (f : X → List ℕ) (told reading : Option Files) (names : List X) (i n : ℕ) (x : X) (name : List ℕ) (scripts : List (List Command)) (status : Status)
    → i < length names → x ≡ get_or names i x → reading ≡ told → name ≡ f x → Continues told (map f names) n scripts (map f (drop i names))
    → IsCalledFor reading (λ files. script_of files n name) (std.Err status) → IsCalledFor told (λ files. scripts_of files (map f names)) (std.Err status)
no_more_scripts f told reading names i n x name scripts status h is same named so_far called =
    let Q : List (List ℕ) → Type 0 = Continues told (map f names) n scripts in
    scripts_stop told (map f names) n scripts (f x) (map f (drop (i + 1) names)) status (subst Q (names_left f names i x h is) so_far)
    (called_at told reading n name (f x) (std.Err status) same named called)

-- all names were read
pub all_scripts : {X : Type 0} (f : X → List ℕ) (told : Option Files) (names : List X) (i n : ℕ) (scripts : List (List Command)) → length names ≤ i
    → Continues told (map f names) n scripts (map f (drop i names)) → IsCalledFor told (λ files. scripts_of files (map f names)) (std.Ok scripts)
all_scripts f told names i n scripts h so_far =
    let Q : List (List ℕ) → Type 0 = Continues told (map f names) n scripts in
    scripts_end told (map f names) n scripts (subst Q (ap (map f) (drop_all i names h)) so_far)

-- ---- the file with their course

-- a course is refused only for a bad line
refused_line : {A : Type 0} (make : A → Course) (said : Result A (ℕ × ℕ)) (name : List ℕ) (status : Status) → (unless_bad_line 0 said >>= λ x. std.Ok (make x)) ≡ std.Err status → IsOfFile 0 name status
refused_line make (std.Ok x) name status e = absurd cc
refused_line make (std.Err fault) name status e = let same : ScriptRefused 0 fault.0 fault.1 ≡ status = cc in subst (IsOfFile 0 name) same refl

course_refused : (task : Task) (callers : ℕ) (text name : List ℕ) (status : Status) → course_in task callers text ≡ std.Err status → IsOfFile 0 name status
course_refused Play callers text name status is = refused_line courses.Play (order_of callers text) name status is
course_refused Replay callers text name status is = absurd cc
course_refused Upgrade callers text name status is = absurd cc
course_refused Watch callers text name status is = refused_line courses.Watch (watch_of callers text) name status is

-- a file that was read has the course that its text has
pub course_read : (told : Option Files) (task : Task) (callers : ℕ) (name text given : List ℕ) (answer : Result Course Status) → ReadsFile told name (std.Ok text) → given ≡ text
    → IsCourseOf task callers given answer → IsCalledFor told (λ files. course_of task files callers name) answer
course_read told task callers name text given answer read same (inl want) = inr (inl want)
course_read None task callers name text given answer read same (inr is) = inr (inr tt)
course_read (Some files) task callers name text given answer read same (inr is) =
    inr (inr (whole_file (course_in task callers) name text (files name) read.1 read.0 ∙ ap (course_in task callers) (sym same) ∙ is))

-- and a course is that of the task
course_said : {A : Type 0} (make : A → Course) (task : Task) (said : Result A (ℕ × ℕ)) (course : Course) → ((x : A) → task_of (make x) ≡ task) → (unless_bad_line 0 said >>= λ x. std.Ok (make x)) ≡ std.Ok course → task_of course ≡ task
course_said make task (std.Ok x) course of e = let same : make x ≡ course = cc in ap task_of (sym same) ∙ of x
course_said make task (std.Err fault) course of e = absurd cc

pub course_task : (task : Task) (callers : ℕ) (text : List ℕ) (answer : Result Course Status) → IsCourseOf task callers text answer → IfOk answer (λ course. task_of course ≡ task)
course_task task callers text (std.Err status) is = tt
course_task task callers text (std.Ok course) (inl want) = absurd cc
course_task Play callers text (std.Ok course) (inr is) = course_said courses.Play Play (order_of callers text) course (λ x. refl) is
course_task Replay callers text (std.Ok course) (inr is) = let same : courses.Replay text ≡ course = cc in ap task_of (sym same)
course_task Upgrade callers text (std.Ok course) (inr is) = let same : courses.Upgrade text ≡ course = cc in ap task_of (sym same)
course_task Watch callers text (std.Ok course) (inr is) = course_said courses.Watch Watch (watch_of callers text) course (λ x. refl) is

-- a refusal is that of this file
pub course_of_file : (task : Task) (callers : ℕ) (text name : List ℕ) (answer : Result Course Status) → IsCourseOf task callers text answer → IfErr answer (IsOfFile 0 name)
course_of_file task callers text name (std.Ok course) is = tt
course_of_file task callers text name (std.Err status) (inl want) = let same : Memory ≡ status = cc in subst (IsOfFile 0 name) same tt
course_of_file task callers text name (std.Err status) (inr is) = course_refused task callers text name status is

-- ---- the inputs

pub called_refused : {A : Type 0} (told : Option Files) (called : Files → Result A Status) (status : Status) → ¬ (status ≡ ReadFault) → ¬ (status ≡ Memory)
    → IsCalledFor told called (std.Err status) → IfSome told (λ files. called files ≡ std.Err status)
called_refused told called status read room (inl e) = absurd (read (cc))
called_refused told called status read room (inr (inl e)) = absurd (room (cc))
called_refused told called status read room (inr (inr is)) = is

-- the words and the files are refused by one of the files behind the machine file
pub reads_refused : (form : Option Form) (told : Option Files) (f : Form) (which : ℕ) (name : List ℕ) (status : Status) → form ≡ Some f → is_from_outside f ≡ true → IsOfFile which name status
    → (¬ (status ≡ ReadFault) → ¬ (status ≡ Memory) → IsRefusedRun form told status) → Reads form told (std.Err status)
reads_refused form told f which name (ScriptRefused number line code) is outside of refused = refused (λ e. absurd (cc)) (λ e. absurd (cc))
reads_refused form told f which name (Absent absent) is outside of refused = inr (refused (λ e. absurd (cc)) (λ e. absurd (cc)))
reads_refused form told f which name (TooLong long) is outside of refused = inr (refused (λ e. absurd (cc)) (λ e. absurd (cc)))
reads_refused form told f which name ReadFault is outside of refused = (f, is, outside)
reads_refused form told f which name Memory is outside of refused = tt
reads_refused form told f which name Ok is outside of refused = absurd of
reads_refused form told f which name (ConfigRefused file line code) is outside of refused = absurd of
reads_refused form told f which name Usage is outside of refused = absurd of
reads_refused form told f which name (MachineRefused line code) is outside of refused = absurd of
reads_refused form told f which name (HistoryRefused line) is outside of refused = absurd of
reads_refused form told f which name (Stuck waits) is outside of refused = absurd of
reads_refused form told f which name (Worlds most) is outside of refused = absurd of
reads_refused form told f which name (Unknown other) is outside of refused = absurd of
reads_refused form told f which name WriteFault is outside of refused = absurd of

-- by a script or the file with their course
pub run_refused : (form : Option Form) (told : Option Files) (task : Task) (file name course : List ℕ) (names : List (List ℕ)) (tables : Tables) (machine : Machine) (status : Status)
    → form ≡ Some (scripted task file name course names) → IsMeant told file tables → IsDescribed told name tables (std.Ok machine)
    → IsCalledFor told (λ files. scripted_of task files names course) (std.Err status) → IsOfScripted names course status → Reads form told (std.Err status)
run_refused form told task file name course names tables machine status is meant described called of = by_file of
  where
    refused : ¬ (status ≡ ReadFault) → ¬ (status ≡ Memory) → IsRefusedRun form told status
    refused read room =
        inl (task, tables, machine, (file, name, course, names, is, meant, described, (called_refused told (λ files. scripted_of task files names course) status read room called, of)))

    by_file : IsOfScripted names course status → Reads form told (std.Err status)
    by_file (inl (place, script, there, one)) = reads_refused form told (scripted task file name course names) (place + 1) script status is refl one refused
    by_file (inr one) = reads_refused form told (scripted task file name course names) 0 course status is refl one refused

-- by one of the scripts that are to run side by side
pub side_by_side_refused : (form : Option Form) (told : Option Files) (file name : List ℕ) (names : List (List ℕ)) (tables : Tables) (machine : Machine) (status : Status)
    → form ≡ Some (side_by_side file name names) → IsMeant told file tables → IsDescribed told name tables (std.Ok machine)
    → IsCalledFor told (λ files. scripts_of files names) (std.Err status) → IsOfScript names status → Reads form told (std.Err status)
side_by_side_refused form told file name names tables machine status is meant described called (place, script, there, one) =
    reads_refused form told (side_by_side file name names) (place + 1) script status is refl one
    (λ read room. inr (inl (tables, machine, (file, name, names, is, meant, described, (called_refused told (λ files. scripts_of files names) status read room called, (place, script, there, one))))))

-- scripts and a course that were read
pub called_given : {A : Type 0} (told : Option Files) (called : Files → Result A Status) (x : A) → IsCalledFor told called (std.Ok x) → IfSome told (λ files. called files ≡ std.Ok x)
called_given told called x (inl e) = absurd (cc)
called_given told called x (inr (inl e)) = absurd (cc)
called_given told called x (inr (inr is)) = is

reads_run : (form : Option Form) (told : Option Files) (tables : Tables) (machine : Machine) (scripts : List (List Command)) (course : Course)
    → IsRun form told tables machine scripts course → Reads form told (std.Ok (inputs_at tables machine scripts course))
reads_run form told tables machine scripts (courses.Play turns) run = run
reads_run form told tables machine scripts (courses.Replay history) run = run
reads_run form told tables machine scripts (courses.Upgrade history) run = run
reads_run form told tables machine scripts (courses.Watch lines) run = run

pub run_read : (form : Option Form) (told : Option Files) (task : Task) (file name course : List ℕ) (names : List (List ℕ)) (tables : Tables) (machine : Machine) (run : Scripted) (inputs : Inputs)
    → form ≡ Some (scripted task file name course names) → IsMeant told file tables → IsDescribed told name tables (std.Ok machine)
    → IsCalledFor told (λ files. scripted_of task files names course) (std.Ok run) → task_of run.course ≡ task → inputs ≡ inputs_by tables machine run → Reads form told (std.Ok inputs)
run_read form told task file name course names tables machine run inputs is meant described called same made =
    rw made (reads_run form told tables machine run.scripts run.course (
      file,
      name,
      course,
      names,
      is ∙ ap (λ (t : Task). Some (scripted t file name course names)) (sym same),
      meant,
      described,
      called_given told (λ files. scripted_of (task_of run.course) files names course) run
          (subst (λ (t : Task). IsCalledFor told (λ files. scripted_of t files names course) (std.Ok run)) (sym same) called),
    ))

formed_at : (tables : Tables) (machine : Machine) (scripts : List (List Command)) (course : Course) → AreFormed tables machine scripts course → FormedInputs (inputs_at tables machine scripts course)
formed_at tables machine scripts (courses.Play turns) formed = formed
formed_at tables machine scripts (courses.Replay history) formed = formed
formed_at tables machine scripts (courses.Upgrade history) formed = formed
formed_at tables machine scripts (courses.Watch lines) formed = formed

-- such inputs are formed
pub formed_run : (tables : Tables) (machine : Machine) (run : Scripted) (inputs : Inputs) → FormedTables tables → FittingMachine tables machine → FormedRun run → inputs ≡ inputs_by tables machine run
    → FormedInputs inputs
formed_run tables machine run inputs formed fits run_formed made = rw made (formed_at tables machine run.scripts run.course (formed, fits, run_formed))

-- scripts that were read, to run side by side
pub side_by_side_read : (told : Option Files) (file name : List ℕ) (names : List (List ℕ)) (tables : Tables) (machine : Machine) (scripts : List (List Command))
    → IsMeant told file tables → IsDescribed told name tables (std.Ok machine) → IsCalledFor told (λ files. scripts_of files names) (std.Ok scripts)
    → Reads (Some (side_by_side file name names)) told (std.Ok (input.Run tables machine scripts))
side_by_side_read told file name names tables machine scripts meant described called =
    (file, name, names, refl, meant, described, called_given told (λ files. scripts_of files names) scripts called)
