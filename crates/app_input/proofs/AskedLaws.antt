-- Files that are due, and are asked for one after the other.
use Rattle.std.proofs.Common.{◌≡◌, ℕ, ◌+◌, ◌<◌, ◌≤◌, inl, inr, List, [], ◌∷◌, ◌++◌, length, map, drop, get_or, if◌then◌else◌, Bool, true, false, Option, Some, None, ap, sym, ◌∙◌, refl, subst, append_assoc, append-nil}
use Rattle.std.specs.Prelude as std
use Rattle.std.specs.Prelude.{◌⊎◌, IfSome, Result, filter_map, is_some, ⊤}
use Rattle.std.specs.List.{cons_option}
use Rattle.std.specs.Result.{result_err, result_ok}
use Rattle.std.proofs.lemmas.List.{drop_all}
use Rattle.cf_types.specs.declared.machine.Command.{Command}
use Rattle.cf_types.specs.declared.machine.Machine.{Machine}
use Rattle.cf_types.specs.declared.tables.Tables.{Tables}
use Rattle.cf_io.specs.Asked.{AsksFront}
use Rattle.cf_io.specs.Load.{asked_behind}
use Rattle.cf_io.proofs.AskedLemmas.{asked_none, asked_then, front_all, front_none}
use Rattle.cf_compile.specs.Compiles.{AsksDue}
use Rattle.cf_compile.specs.declared.stop.CompileStop.{CompileStop}
use Rattle.cf_compile.specs.declared.stop.CompileStop.TheVariants as stops
use Rattle.config_rules.specs.Reading.{Files, reading}
use Rattle.config_rules.specs.Meaning.{Means}
use Rattle.app_input.specs.Asked.{AsksForm, AsksIf, AsksInputs, DueFile, IsAskedFor, Names, StopsFirst, files_behind, giving, machine_file, plan_files, script_files, scripted_files, up_to_refused}
use Rattle.app_input.specs.declared.inputs.Inputs.{Inputs}
use Rattle.app_input.specs.declared.inputs.Inputs.TheVariants.{Boot}
use Rattle.app_input.specs.Inputs.{IsMeant, ReadsMachine, ReadsTables, booted, booted_from}
use Rattle.app_input.specs.declared.scripts.Course.{Course}
use Rattle.app_words.specs.declared.words.Task.{Task}
use Rattle.live_rules.specs.declared.plan.Plan.{Plan}
use Rattle.app_input.specs.Plans.{plan_from}
use Rattle.app_input.specs.Scripted.{IsCalledFor, course_of, script_of, scripts_from, scripts_of, unless_refused}
use Rattle.app_input.specs.Stop.{status_of_stop}
use Rattle.app_words.specs.Status.{status_of}
use Rattle.app_words.specs.Words.{Form, boot, config_of, following, ioconf, is_from_outside, scripted, side_by_side}
use Rattle.app_words.specs.declared.status.Status.{Status}
use Rattle.app_words.specs.declared.status.Status.TheVariants.{Ok, ConfigRefused, Usage, MachineRefused, ScriptRefused, HistoryRefused, Absent, TooLong, ReadFault, WriteFault, Memory, Stuck, Worlds, Unknown}
use Rattle.app_input.proofs.DueLaws.{long_file, short_file}
use Rattle.app_input.proofs.ScriptedLaws.{called_at, names_left}

-- ---- some of the due files, and then others

-- a first part of the due files was asked for, and this rest was not
pub record SoFar (due rest : List (List ℕ)) (old now : Names) : Type 0 where
  pub front : List (List ℕ)
  pub parts : due ≡ front ++ rest
  pub asked : now ≡ asked_behind old front

pub none_asked : (due : List (List ℕ)) (old : Names) → SoFar due due old old
none_asked due old = record { front = []; parts = refl; asked = asked_none old }

pub more_asked : (due part rest : List (List ℕ)) (old mid new : Names) → SoFar due (part ++ rest) old mid → new ≡ asked_behind mid part → SoFar due rest old new
more_asked due part rest old mid new so_far asked = record {
  front = so_far.front ++ part;
  parts = so_far.parts ∙ sym (append_assoc so_far.front part rest);
  asked = asked ∙ ap (λ o. asked_behind o part) so_far.asked ∙ asked_then old so_far.front part;
}

part_asked : (due part rest : List (List ℕ)) (old mid new : Names) → SoFar due (part ++ rest) old mid → AsksFront part mid new → AsksFront due old new
part_asked due part rest old mid new so_far some = record {
  front = so_far.front ++ some.front;
  rest = some.rest ++ rest;
  parts =
      so_far.parts ∙ ap (λ names. so_far.front ++ names) (ap (λ names. names ++ rest) some.parts ∙ append_assoc some.front some.rest rest)
      ∙ sym (append_assoc so_far.front some.front (some.rest ++ rest));
  asked = some.asked ∙ ap (λ o. asked_behind o some.front) so_far.asked ∙ asked_then old so_far.front some.front;
}

pub some_asked : (due rest : List (List ℕ)) (old new : Names) → SoFar due rest old new → AsksFront due old new
some_asked due rest old new so_far = record { front = so_far.front; rest = rest; parts = so_far.parts; asked = so_far.asked }

pub whole_asked : (due : List (List ℕ)) (old new : Names) → SoFar due [] old new → new ≡ asked_behind old due
whole_asked due old new so_far = so_far.asked ∙ ap (asked_behind old) (sym (so_far.parts ∙ append-nil so_far.front))

-- ---- at a status

-- all due files were asked for, whatever came of it
pub all_asked : (due : List (List ℕ)) (status : Status) (old new : Names) → new ≡ asked_behind old due → IsAskedFor due status old new
all_asked due ReadFault old new asked = front_all due old new asked
all_asked due Memory old new asked = front_all due old new asked
all_asked due Ok old new asked = asked
all_asked due (ConfigRefused file line code) old new asked = asked
all_asked due Usage old new asked = asked
all_asked due (MachineRefused line code) old new asked = asked
all_asked due (ScriptRefused which line code) old new asked = asked
all_asked due (HistoryRefused line) old new asked = asked
all_asked due (Stuck waits) old new asked = asked
all_asked due (Worlds most) old new asked = asked
all_asked due (Unknown name) old new asked = asked
all_asked due (Absent name) old new asked = asked
all_asked due (TooLong name) old new asked = asked
all_asked due WriteFault old new asked = asked

-- nothing was asked for
pub nothing_asked : (due : List (List ℕ)) (old new : Names) → new ≡ asked_behind old [] → IsAskedFor due Memory old new
nothing_asked due old new asked = record { front = []; rest = due; parts = refl; asked = asked }

-- where memory runs out later, a front of the due files was asked for
pub memory_asked : (due : List (List ℕ)) (status : Status) (old new : Names) → IsAskedFor due status old new → IsAskedFor due Memory old new
memory_asked due ReadFault old new asked = asked
memory_asked due Memory old new asked = asked
memory_asked due Ok old new asked = front_all due old new asked
memory_asked due (ConfigRefused file line code) old new asked = front_all due old new asked
memory_asked due Usage old new asked = front_all due old new asked
memory_asked due (MachineRefused line code) old new asked = front_all due old new asked
memory_asked due (ScriptRefused which line code) old new asked = front_all due old new asked
memory_asked due (HistoryRefused line) old new asked = front_all due old new asked
memory_asked due (Stuck waits) old new asked = front_all due old new asked
memory_asked due (Worlds most) old new asked = front_all due old new asked
memory_asked due (Unknown name) old new asked = front_all due old new asked
memory_asked due (Absent name) old new asked = front_all due old new asked
memory_asked due (TooLong name) old new asked = front_all due old new asked
memory_asked due WriteFault old new asked = front_all due old new asked

-- a configuration was not compiled, or its sources were not selected
pub stopped_asked : (A : Type 0) (told : Option Files) (due : Files → List (List ℕ)) (stop : CompileStop) (status : Status) (old new : Names) → status ≡ status_of_stop stop
    → IfSome told (λ files. AsksDue {A = A} (due files) (std.Err stop) old new) → IfSome told (λ files. IsAskedFor (due files) status old new)
stopped_asked A told due stop status old new is asked = subst (λ (s : Status). IfSome told (λ files. IsAskedFor (due files) s old new)) (sym is) (by_stop told stop asked)
  where
    by_stop : (told : Option Files) (stop : CompileStop) → IfSome told (λ files. AsksDue {A = A} (due files) (std.Err stop) old new)
        → IfSome told (λ files. IsAskedFor (due files) (status_of_stop stop) old new)
    by_stop None stop asked = tt
    by_stop (Some files) (stops.Refused refusal) asked = asked
    by_stop (Some files) stops.ReadFault asked = asked
    by_stop (Some files) stops.Memory asked = asked

-- nothing is left, unless a file could not be read or memory ran out
abbrev pub IsLeft : Status → List (List ℕ) → Type 0
IsLeft ReadFault rest = ⊤
IsLeft Memory rest = ⊤
IsLeft _ rest = rest ≡ []

none_left : (status : Status) (rest : List (List ℕ)) → rest ≡ [] → IsLeft status rest
none_left ReadFault rest none = tt
none_left Memory rest none = tt
none_left Ok rest none = none
none_left (ConfigRefused file line code) rest none = none
none_left Usage rest none = none
none_left (MachineRefused line code) rest none = none
none_left (ScriptRefused which line code) rest none = none
none_left (HistoryRefused line) rest none = none
none_left (Stuck waits) rest none = none
none_left (Worlds most) rest none = none
none_left (Unknown name) rest none = none
none_left (Absent name) rest none = none
none_left (TooLong name) rest none = none
none_left WriteFault rest none = none

-- the last part was asked for
last_asked : (due part rest : List (List ℕ)) (status : Status) (old mid new : Names) → SoFar due (part ++ rest) old mid → IsAskedFor part status mid new → IsLeft status rest
    → IsAskedFor due status old new
last_asked due part rest status old mid new so_far asked left = by_status status asked left
  where
    whole : new ≡ asked_behind mid part → rest ≡ [] → new ≡ asked_behind old due
    whole asked left = whole_asked due old new (subst (λ (more : List (List ℕ)). SoFar due more old new) left (more_asked due part rest old mid new so_far asked))

    by_status : (s : Status) → IsAskedFor part s mid new → IsLeft s rest → IsAskedFor due s old new
    by_status ReadFault asked left = part_asked due part rest old mid new so_far asked
    by_status Memory asked left = part_asked due part rest old mid new so_far asked
    by_status Ok asked left = whole asked left
    by_status (ConfigRefused file line code) asked left = whole asked left
    by_status Usage asked left = whole asked left
    by_status (MachineRefused line code) asked left = whole asked left
    by_status (ScriptRefused which line code) asked left = whole asked left
    by_status (HistoryRefused line) asked left = whole asked left
    by_status (Stuck waits) asked left = whole asked left
    by_status (Worlds most) asked left = whole asked left
    by_status (Unknown name) asked left = whole asked left
    by_status (Absent name) asked left = whole asked left
    by_status (TooLong name) asked left = whole asked left
    by_status WriteFault asked left = whole asked left

-- the rest was asked for
pub rest_asked : (due rest : List (List ℕ)) (status : Status) (old mid new : Names) → SoFar due rest old mid → IsAskedFor rest status mid new → IsAskedFor due status old new
rest_asked due rest status old mid new so_far asked =
    last_asked due rest [] status old mid new (subst (λ (more : List (List ℕ)). SoFar due more old mid) (sym (append-nil rest)) so_far) asked (none_left status [] refl)

-- ---- files that are read, or refused

-- what is due behind files that give this
abbrev pub unless_err : {A : Type 0} → Result A Status → List (List ℕ) → List (List ℕ)
unless_err result rest = if is_some (result_err result) then [] else rest

-- what was read goes on with what is behind it
pub goes_on : {A : Type 0} (due part rest : List (List ℕ)) (called : Result A Status) (x : A) (old mid new : Names) → SoFar due (part ++ unless_err called rest) old mid → called ≡ std.Ok x
    → new ≡ asked_behind mid part → SoFar due rest old new
goes_on due part rest called x old mid new so_far is asked =
    subst (λ (more : List (List ℕ)). SoFar due more old new) (ap (λ r. unless_err r rest) is) (more_asked due part (unless_err called rest) old mid new so_far asked)

-- what was refused ends the asking
pub ends_at : {A : Type 0} (files : Files) (due part rest : List (List ℕ)) (called : Files → Result A Status) (status : Status) (old mid new : Names)
    → SoFar due (part ++ unless_err (called files) rest) old mid → IsCalledFor (Some files) called (std.Err status) → IsAskedFor part status mid new → IsAskedFor due status old new
ends_at {A = A} files due part rest called status old mid new so_far is asked = last_asked due part (unless_err (called files) rest) status old mid new so_far asked (left is)
  where
    left : IsCalledFor (Some files) called (std.Err status) → IsLeft status (unless_err (called files) rest)
    left (inl fault) = let same : ReadFault ≡ status = cc in subst (λ (s : Status). IsLeft s (unless_err (called files) rest)) same tt
    left (inr (inl memory)) = let same : Memory ≡ status = cc in subst (λ (s : Status). IsLeft s (unless_err (called files) rest)) same tt
    left (inr (inr refused)) = none_left status (unless_err (called files) rest) (ap (λ r. unless_err r rest) refused)

-- ---- scripts and the file with their course

first_of_two : {A B : Type 0} (name : List ℕ) (first : Result A Status) (files more : List DueFile) (refusals : List Status) (values : List B)
    → up_to_refused (files ++ more) ≡ up_to_refused files ++ unless_err (unless_refused refusals values) (up_to_refused more)
    → up_to_refused (giving name first ∷ files ++ more)
    ≡ up_to_refused (giving name first ∷ files) ++ unless_err (unless_refused (cons_option (result_err first) refusals) values) (up_to_refused more)
first_of_two name (std.Ok x) files more refusals values rest = ap (λ names. name ∷ names) rest
first_of_two name (std.Err status) files more refusals values rest = refl

-- what is due of scripts and of files behind them
scripts_then : (files : Files) (n : ℕ) (names : List (List ℕ)) (values : List (List Command)) (more : List DueFile)
    → up_to_refused (script_files files n names ++ more)
    ≡ up_to_refused (script_files files n names) ++ unless_err (unless_refused (filter_map result_err (scripts_from files n names)) values) (up_to_refused more)
scripts_then files n [] values more = refl
scripts_then files n (name ∷ names) values more =
    first_of_two name (script_of files n name) (script_files files (n + 1) names) more (filter_map result_err (scripts_from files (n + 1) names)) values
    (scripts_then files (n + 1) names values more)

-- what is due of the scripts, and what is due behind them
run_due : (task : Task) (files : Files) (names : List (List ℕ)) (course : List ℕ) (old : Names)
    → SoFar (up_to_refused (scripted_files task files names course))
    (up_to_refused (script_files files 1 names) ++ unless_err (scripts_of files names) (course ∷ unless_err (course_of task files (length names) course) [])) old old
run_due task files names course old =
    let due = up_to_refused (scripted_files task files names course) in
    subst (λ (rest : List (List ℕ)). SoFar due rest old old)
    (scripts_then files 1 names (filter_map result_ok (scripts_from files 1 names)) (giving course (course_of task files (length names) course) ∷ [])) (none_asked due old)

-- the scripts were refused, or could not be read
pub scripts_stop : (task : Task) (told : Option Files) (names : List (List ℕ)) (course : List ℕ) (status : Status) (old new : Names) → IsCalledFor told (λ files. scripts_of files names) (std.Err status)
    → IfSome told (λ files. IsAskedFor (up_to_refused (script_files files 1 names)) status old new)
    → IfSome told (λ files. IsAskedFor (up_to_refused (scripted_files task files names course)) status old new)
scripts_stop task None names course status old new called asked = tt
scripts_stop task (Some files) names course status old new called asked =
    ends_at files (up_to_refused (scripted_files task files names course)) (up_to_refused (script_files files 1 names)) (course ∷ unless_err (course_of task files (length names) course) [])
    (λ files. scripts_of files names) status old old new (run_due task files names course old) called asked

called_ok : {A : Type 0} (files : Files) (called : Files → Result A Status) (x : A) → IsCalledFor (Some files) called (std.Ok x) → called files ≡ std.Ok x
called_ok files called x (inl e) = absurd (cc)
called_ok files called x (inr (inl e)) = absurd (cc)
called_ok files called x (inr (inr is)) = is

course_told : (task : Task) (told : Option Files) (names : List (List ℕ)) (course : List ℕ) (scripts : List (List Command)) (given : Result Course Status) (old mid new : Names)
    → IsCalledFor told (λ files. scripts_of files names) (std.Ok scripts) → IfSome told (λ files. mid ≡ asked_behind old (up_to_refused (script_files files 1 names)))
    → IsCalledFor told (λ files. course_of task files (length names) course) given → IsAskedFor (course ∷ []) (status_of given) mid new
    → IfSome told (λ files. IsAskedFor (up_to_refused (scripted_files task files names course)) (status_of given) old new)
course_told task None names course scripts given old mid new read before called asked = tt
course_told task (Some files) names course scripts given old mid new read before called asked = by_course given called asked
  where
    due : List (List ℕ)
    due = up_to_refused (scripted_files task files names course)

    due_course : Result Course Status
    due_course = course_of task files (length names) course

    so_far : SoFar due (course ∷ unless_err due_course []) old mid
    so_far =
        goes_on due (up_to_refused (script_files files 1 names)) (course ∷ unless_err due_course []) (scripts_of files names) scripts old old mid (run_due task files names course old)
        (called_ok files (λ files. scripts_of files names) scripts read) before

    by_course : (given : Result Course Status) → IsCalledFor (Some files) (λ files. course_of task files (length names) course) given → IsAskedFor (course ∷ []) (status_of given) mid new
        → IsAskedFor due (status_of given) old new
    by_course (std.Ok given) called asked =
        whole_asked due old new (goes_on due (course ∷ []) [] due_course given old mid new so_far (called_ok files (λ files. course_of task files (length names) course) given called) asked)
    by_course (std.Err status) called asked = ends_at files due (course ∷ []) [] (λ files. course_of task files (length names) course) status old mid new so_far called asked

-- the scripts were read, and then the file with their course was asked for
pub course_asked : (task : Task) (told later : Option Files) (names : List (List ℕ)) (callers : ℕ) (course : List ℕ) (scripts : List (List Command)) (given : Result Course Status) (old mid new : Names)
    → later ≡ told → callers ≡ length names → IsCalledFor told (λ files. scripts_of files names) (std.Ok scripts)
    → IfSome told (λ files. mid ≡ asked_behind old (up_to_refused (script_files files 1 names))) → IsCalledFor later (λ files. course_of task files callers course) given
    → IsAskedFor (course ∷ []) (status_of given) mid new → IfSome told (λ files. IsAskedFor (up_to_refused (scripted_files task files names course)) (status_of given) old new)
course_asked task told later names callers course scripts given old mid new same many read before called asked =
    course_told task told names course scripts given old mid new read before
    (subst (λ (n : ℕ). IsCalledFor told (λ files. course_of task files n course) given) many (subst (λ (files : Option Files). IsCalledFor files (λ files. course_of task files callers course) given) same called)) asked

-- so many scripts were read, and these are left
abbrev pub ScriptsLeft : Option Files → List (List ℕ) → ℕ → List (List ℕ) → Names → Names → Type 0
ScriptsLeft told names n more old now = IfSome told (λ files. SoFar (up_to_refused (script_files files 1 names)) (up_to_refused (script_files files n more)) old now)

pub scripts_begin : (told : Option Files) (names : List (List ℕ)) (old : Names) → ScriptsLeft told names 1 names old old
scripts_begin None names old = tt
scripts_begin (Some files) names old = none_asked (up_to_refused (script_files files 1 names)) old

-- one more script was read
pub script_asked : {X : Type 0} (f : X → List ℕ) (told reads : Option Files) (names : List X) (i n : ℕ) (x : X) (name : List ℕ) (script : List Command) (old mid new : Names)
    → i < length names → x ≡ get_or names i x → reads ≡ told → name ≡ f x → ScriptsLeft told (map f names) n (map f (drop i names)) old mid
    → IsCalledFor reads (λ files. script_of files n name) (std.Ok script) → new ≡ asked_behind mid (name ∷ [])
    → ScriptsLeft told (map f names) (n + 1) (map f (drop (i + 1) names)) old new
script_asked f told reads names i n x name script old mid new h is same named so_far called asked =
    by_told told
    (subst (λ (left : List (List ℕ)). ScriptsLeft told (map f names) n left old mid) (names_left f names i x h is) so_far)
    (called_at told reads n name (f x) (std.Ok script) same named called) (subst (λ (asked : List ℕ). new ≡ asked_behind mid (asked ∷ [])) named asked)
  where
    more : List (List ℕ)
    more = map f (drop (i + 1) names)

    by_told : (told : Option Files) → ScriptsLeft told (map f names) n (f x ∷ more) old mid → IsCalledFor told (λ files. script_of files n (f x)) (std.Ok script)
        → new ≡ asked_behind mid (f x ∷ []) → ScriptsLeft told (map f names) (n + 1) more old new
    by_told None so_far called asked = tt
    by_told (Some files) so_far called asked =
        goes_on (up_to_refused (script_files files 1 (map f names))) (f x ∷ []) (up_to_refused (script_files files (n + 1) more)) (script_of files n (f x)) script old mid new so_far
        (called_ok files (λ files. script_of files n (f x)) script called) asked

-- a script was refused, or could not be read
pub script_stops : {X : Type 0} (f : X → List ℕ) (told reads : Option Files) (names : List X) (i n : ℕ) (x : X) (name : List ℕ) (status : Status) (old mid new : Names)
    → i < length names → x ≡ get_or names i x → reads ≡ told → name ≡ f x → ScriptsLeft told (map f names) n (map f (drop i names)) old mid
    → IsCalledFor reads (λ files. script_of files n name) (std.Err status) → IsAskedFor (name ∷ []) status mid new
    → IfSome told (λ files. IsAskedFor (up_to_refused (script_files files 1 (map f names))) status old new)
script_stops f told reads names i n x name status old mid new h is same named so_far called asked =
    by_told told
    (subst (λ (left : List (List ℕ)). ScriptsLeft told (map f names) n left old mid) (names_left f names i x h is) so_far)
    (called_at told reads n name (f x) (std.Err status) same named called) (subst (λ (asked : List ℕ). IsAskedFor (asked ∷ []) status mid new) named asked)
  where
    more : List (List ℕ)
    more = map f (drop (i + 1) names)

    by_told : (told : Option Files) → ScriptsLeft told (map f names) n (f x ∷ more) old mid → IsCalledFor told (λ files. script_of files n (f x)) (std.Err status)
        → IsAskedFor (f x ∷ []) status mid new → IfSome told (λ files. IsAskedFor (up_to_refused (script_files files 1 (map f names))) status old new)
    by_told None so_far called asked = tt
    by_told (Some files) so_far called asked =
        ends_at files (up_to_refused (script_files files 1 (map f names))) (f x ∷ []) (up_to_refused (script_files files (n + 1) more)) (λ files. script_of files n (f x)) status old mid new
        so_far called asked

-- memory ran out behind some scripts
pub scripts_cut : (told : Option Files) (names more : List (List ℕ)) (n : ℕ) (old new : Names) → ScriptsLeft told names n more old new
    → IfSome told (λ files. IsAskedFor (up_to_refused (script_files files 1 names)) Memory old new)
scripts_cut None names more n old new so_far = tt
scripts_cut (Some files) names more n old new so_far = some_asked (up_to_refused (script_files files 1 names)) (up_to_refused (script_files files n more)) old new so_far

-- all scripts were read
pub scripts_asked : {X : Type 0} (f : X → List ℕ) (told : Option Files) (names : List X) (i n : ℕ) (old new : Names) → length names ≤ i
    → ScriptsLeft told (map f names) n (map f (drop i names)) old new → IfSome told (λ files. IsAskedFor (up_to_refused (script_files files 1 (map f names))) Ok old new)
scripts_asked f told names i n old new h so_far = by_told told (subst (λ (left : List (List ℕ)). ScriptsLeft told (map f names) n left old new) (ap (map f) (drop_all i names h)) so_far)
  where
    by_told : (told : Option Files) → ScriptsLeft told (map f names) n [] old new → IfSome told (λ files. IsAskedFor (up_to_refused (script_files files 1 (map f names))) Ok old new)
    by_told None so_far = tt
    by_told (Some files) so_far = whole_asked (up_to_refused (script_files files 1 (map f names))) old new so_far

-- a plan was asked for
pub plan_asked : (tables : Tables) (name : List ℕ) (told : Option Files) (given : Result Plan Status) (old new : Names) → IsCalledFor told (λ files. plan_from files tables name) given
    → IsAskedFor (name ∷ []) (status_of given) old new → IfSome told (λ files. IsAskedFor (up_to_refused (plan_files tables name files)) (status_of given) old new)
plan_asked tables name None given old new called asked = tt
plan_asked tables name (Some files) given old new called asked = by_plan given called asked
  where
    due : List (List ℕ)
    due = up_to_refused (plan_files tables name files)

    due_plan : Files → Result Plan Status
    due_plan files = plan_from files tables name

    by_plan : (given : Result Plan Status) → IsCalledFor (Some files) due_plan given → IsAskedFor (name ∷ []) (status_of given) old new → IsAskedFor due (status_of given) old new
    by_plan (std.Ok plan) called asked = whole_asked due old new (goes_on due (name ∷ []) [] (due_plan files) plan old old new (none_asked due old) (called_ok files due_plan plan called) asked)
    by_plan (std.Err status) called asked = ends_at files due (name ∷ []) [] due_plan status old old new (none_asked due old) called asked

-- ---- the machine file

-- the boot that a machine file gives
abbrev boot_of : Tables → List ℕ → Files → Result Inputs Status
boot_of tables name files = booted_from (λ machine. std.Ok (Boot tables machine)) tables name (files name)

machine_read : (files : Files) (name : List ℕ) (tables : Tables) (machine : Machine) → ReadsMachine (Some files) name tables (std.Ok machine)
    → boot_of tables name files ≡ std.Ok (Boot tables machine)
machine_read files name tables machine (text, there, short, described) =
    let next : Machine → Result Inputs Status = λ machine. std.Ok (Boot tables machine) in
    short_file next tables name text (files name) there short ∙ ap (booted next) described

machine_refused : (files : Files) (name : List ℕ) (tables : Tables) (status : Status) → ReadsMachine (Some files) name tables (std.Err status)
    → IsCalledFor (Some files) (boot_of tables name) (std.Err status)
machine_refused files name tables (MachineRefused line code) (text, there, short, described) =
    let next : Machine → Result Inputs Status = λ machine. std.Ok (Boot tables machine) in
    inr (inr (short_file next tables name text (files name) there short ∙ ap (booted next) described))
machine_refused files name tables (Absent absent) (same, lacking) =
    let next : Machine → Result Inputs Status = λ machine. std.Ok (Boot tables machine) in
    inr (inr (ap (booted_from next tables name) lacking ∙ ap (λ (n : List ℕ). std.Err (Absent n)) (sym same)))
machine_refused files name tables (TooLong long) (same, (text, there, big)) =
    let next : Machine → Result Inputs Status = λ machine. std.Ok (Boot tables machine) in
    inr (inr (long_file next tables name text (files name) there big ∙ ap (λ (n : List ℕ). std.Err (TooLong n)) (sym same)))
machine_refused files name tables ReadFault reads = inl refl
machine_refused files name tables Memory reads = inr (inl refl)
machine_refused files name tables Ok reads = elim reads [ ]
machine_refused files name tables (ConfigRefused file line code) reads = elim reads [ ]
machine_refused files name tables Usage reads = elim reads [ ]
machine_refused files name tables (ScriptRefused which line code) reads = elim reads [ ]
machine_refused files name tables (HistoryRefused line) reads = elim reads [ ]
machine_refused files name tables (Stuck waits) reads = elim reads [ ]
machine_refused files name tables (Worlds most) reads = elim reads [ ]
machine_refused files name tables (Unknown other) reads = elim reads [ ]
machine_refused files name tables WriteFault reads = elim reads [ ]

-- ---- the forms

stops_first : (told : Option Files) (file : List ℕ) (status : Status) → ReadsTables told file (std.Err status) → StopsFirst status
stops_first told file (ConfigRefused name line code) reads = tt
stops_first told file ReadFault reads = tt
stops_first told file Memory reads = tt
stops_first told file Ok reads = elim reads [ ]
stops_first told file Usage reads = elim reads [ ]
stops_first told file (MachineRefused line code) reads = elim reads [ ]
stops_first told file (ScriptRefused which line code) reads = elim reads [ ]
stops_first told file (HistoryRefused line) reads = elim reads [ ]
stops_first told file (Stuck waits) reads = elim reads [ ]
stops_first told file (Worlds most) reads = elim reads [ ]
stops_first told file (Unknown name) reads = elim reads [ ]
stops_first told file (Absent name) reads = elim reads [ ]
stops_first told file (TooLong name) reads = elim reads [ ]
stops_first told file WriteFault reads = elim reads [ ]

-- the configuration was refused, or could not be read
pub config_stops : (form : Form) (told : Option Files) (status : Status) (old new : Names) → ReadsTables told (config_of form) (std.Err status)
    → IfSome told (λ files. IsAskedFor (reading files (config_of form)).asked status old new) → IfSome told (λ files. AsksForm form files status old new)
config_stops form None status old new reads asked = tt
config_stops form (Some files) status old new reads asked = inl (stops_first (Some files) (config_of form) status reads, asked)

-- the configuration was read, and nothing is due behind it
pub ioconf_asked : (told : Option Files) (file : List ℕ) (tables : Tables) (old new : Names) → IsMeant told file tables
    → IfSome told (λ files. new ≡ asked_behind old (reading files file).asked) → IfSome told (λ files. AsksForm (ioconf file) files Ok old new)
ioconf_asked None file tables old new meant asked = tt
ioconf_asked (Some files) file tables old new meant asked = inr (tables, meant, asked ∙ ap (asked_behind old) (sym (append-nil (reading files file).asked)))

-- the files of the configuration were asked for, and not those behind it
config_read : (config behind : List (List ℕ)) (old mid : Names) → mid ≡ asked_behind old config → SoFar (config ++ behind) behind old mid
config_read config behind old mid asked = more_asked (config ++ behind) config behind old old mid (none_asked (config ++ behind) old) asked

-- the machine file was refused, or could not be read
machine_ends : (form : Form) (files : Files) (name : List ℕ) (tables : Tables) (more : List DueFile) (status : Status) (old mid new : Names) → Means files (config_of form) tables
    → files_behind form files tables ≡ machine_file files tables name ∷ more → mid ≡ asked_behind old (reading files (config_of form)).asked
    → ReadsMachine (Some files) name tables (std.Err status) → IsAskedFor (name ∷ []) status mid new → AsksForm form files status old new
machine_ends form files name tables more status old mid new meant behind before reads asked =
    let config = (reading files (config_of form)).asked in
    let due = config ++ up_to_refused (machine_file files tables name ∷ more) in
    inr (
      tables,
      meant,
      subst (λ (behind : List DueFile). IsAskedFor (config ++ up_to_refused behind) status old new) (sym behind)
          (ends_at files due (name ∷ []) (up_to_refused more) (boot_of tables name) status old mid new
          (config_read config (up_to_refused (machine_file files tables name ∷ more)) old mid before) (machine_refused files name tables status reads) asked),
    )

-- the machine file of a boot was asked for
pub boot_asked : (told reads : Option Files) (file name : List ℕ) (tables : Tables) (machine : Result Machine Status) (old mid new : Names) → reads ≡ told → IsMeant told file tables
    → IfSome told (λ files. mid ≡ asked_behind old (reading files file).asked) → ReadsMachine reads name tables machine → IsAskedFor (name ∷ []) (status_of machine) mid new
    → IfSome told (λ files. AsksForm (boot file name) files (status_of machine) old new)
boot_asked told reads file name tables machine old mid new same meant before read asked =
    by_told told machine meant before (subst (λ (files : Option Files). ReadsMachine files name tables machine) same read) asked
  where
    by_told : (told : Option Files) (machine : Result Machine Status) → IsMeant told file tables → IfSome told (λ files. mid ≡ asked_behind old (reading files file).asked)
        → ReadsMachine told name tables machine → IsAskedFor (name ∷ []) (status_of machine) mid new → IfSome told (λ files. AsksForm (boot file name) files (status_of machine) old new)
    by_told None machine meant before read asked = tt
    by_told (Some files) (std.Err status) meant before read asked = machine_ends (boot file name) files name tables [] status old mid new meant refl before read asked
    by_told (Some files) (std.Ok machine) meant before read asked =
        let config = (reading files file).asked in
        let due = config ++ up_to_refused (machine_file files tables name ∷ []) in
        inr (
          tables,
          meant,
          whole_asked due old new
              (goes_on due (name ∷ []) [] (boot_of tables name files) (Boot tables machine) old mid new (config_read config (up_to_refused (machine_file files tables name ∷ [])) old mid before)
              (machine_read files name tables machine read) asked),
        )

-- behind a configuration, these files are due behind the machine file
abbrev pub BehindMachine : Form → Tables → List ℕ → (Files → List DueFile) → Type 0
BehindMachine form tables name rest = (files : Files) → files_behind form files tables ≡ machine_file files tables name ∷ rest files

-- the machine file of a run was refused, or could not be read
pub run_unfit : (form : Form) (name : List ℕ) (rest : Files → List DueFile) (told reads : Option Files) (tables : Tables) (status : Status) (old mid new : Names) → BehindMachine form tables name rest
    → reads ≡ told → IsMeant told (config_of form) tables → IfSome told (λ files. mid ≡ asked_behind old (reading files (config_of form)).asked)
    → ReadsMachine reads name tables (std.Err status) → IsAskedFor (name ∷ []) status mid new → IfSome told (λ files. AsksForm form files status old new)
run_unfit form name rest told reads tables status old mid new behind same meant before read asked =
    by_told told meant before (subst (λ (files : Option Files). ReadsMachine files name tables (std.Err status)) same read)
  where
    by_told : (told : Option Files) → IsMeant told (config_of form) tables → IfSome told (λ files. mid ≡ asked_behind old (reading files (config_of form)).asked)
        → ReadsMachine told name tables (std.Err status) → IfSome told (λ files. AsksForm form files status old new)
    by_told None meant before read = tt
    by_told (Some files) meant before read = machine_ends form files name tables (rest files) status old mid new meant (behind files) before read asked

-- the files of a run behind the machine file were asked for
pub run_asked : (form : Form) (name : List ℕ) (rest : Files → List DueFile) (told reads later : Option Files) (tables : Tables) (machine : Machine) (status : Status) (old mid loaded new : Names)
    → BehindMachine form tables name rest → reads ≡ told → later ≡ told → IsMeant told (config_of form) tables
    → IfSome told (λ files. mid ≡ asked_behind old (reading files (config_of form)).asked) → ReadsMachine reads name tables (std.Ok machine)
    → loaded ≡ asked_behind mid (name ∷ []) → IfSome later (λ files. IsAskedFor (up_to_refused (rest files)) status loaded new)
    → IfSome told (λ files. AsksForm form files status old new)
run_asked form name rest told reads later tables machine status old mid loaded new behind same same' meant before read asked rest_due =
    by_told told meant before (subst (λ (files : Option Files). ReadsMachine files name tables (std.Ok machine)) same read)
    (subst (λ (told : Option Files). IfSome told (λ files. IsAskedFor (up_to_refused (rest files)) status loaded new)) same' rest_due)
  where
    by_told : (told : Option Files) → IsMeant told (config_of form) tables → IfSome told (λ files. mid ≡ asked_behind old (reading files (config_of form)).asked)
        → ReadsMachine told name tables (std.Ok machine) → IfSome told (λ files. IsAskedFor (up_to_refused (rest files)) status loaded new)
        → IfSome told (λ files. AsksForm form files status old new)
    by_told None meant before read rest_due = tt
    by_told (Some files) meant before read rest_due =
        let config = (reading files (config_of form)).asked in
        let more = up_to_refused (rest files) in
        let due = up_to_refused (machine_file files tables name ∷ rest files) in
        inr (
          tables,
          meant,
          subst (λ (behind : List DueFile). IsAskedFor (config ++ up_to_refused behind) status old new) (sym (behind files))
              (rest_asked (config ++ due) more status old loaded new
              (goes_on (config ++ due) (name ∷ []) more (boot_of tables name files) (Boot tables machine) old mid loaded (config_read config due old mid before)
              (machine_read files name tables machine read) asked) rest_due),
        )

-- ---- the words

form_all : (form : Form) (files : Files) (status : Status) (old new : Names) → AsksForm form files Ok old new → AsksForm form files status old new
form_all form files status old new (inl (never, asked)) = absurd never
form_all form files status old new (inr (tables, meant, asked)) =
    inr (tables, meant, all_asked ((reading files (config_of form)).asked ++ up_to_refused (files_behind form files tables)) status old new asked)

form_memory : (form : Form) (files : Files) (status : Status) (old new : Names) → AsksForm form files status old new → AsksForm form files Memory old new
form_memory form files status old new (inl (first, asked)) = inl (tt, memory_asked (reading files (config_of form)).asked status old new asked)
form_memory form files status old new (inr (tables, meant, asked)) =
    inr (tables, meant, memory_asked ((reading files (config_of form)).asked ++ up_to_refused (files_behind form files tables)) status old new asked)

if_form : (b : Bool) (form : Form) (told : Option Files) (status status' : Status) (old new : Names)
    → ((files : Files) → AsksForm form files status old new → AsksForm form files status' old new) → AsksIf b form told status old new → AsksIf b form told status' old new
if_form false form told status status' old new step asked = asked
if_form true form None status status' old new step asked = tt
if_form true form (Some files) status status' old new step asked = step files asked

-- memory ran out before a file was asked for
pub inputs_none : (form : Option Form) (told : Option Files) (old : Names) → AsksInputs form told Memory old old
inputs_none None told old = refl
inputs_none (Some form) told old = by_source (is_from_outside form) told
  where
    by_source : (b : Bool) (told : Option Files) → AsksIf b form told Memory old old
    by_source false told = refl
    by_source true None = tt
    by_source true (Some files) = inl (tt, front_none (reading files (config_of form)).asked old old refl)

-- where the inputs were read, all that is due was asked for, whatever comes of it
pub inputs_all : (form : Option Form) (told : Option Files) (status : Status) (old new : Names) → AsksInputs form told Ok old new → AsksInputs form told status old new
inputs_all None told status old new asked = asked
inputs_all (Some form) told status old new asked = if_form (is_from_outside form) form told Ok status old new (λ files. form_all form files status old new) asked

-- where memory runs out later, a front of it
pub inputs_memory : (form : Option Form) (told : Option Files) (status : Status) (old new : Names) → AsksInputs form told status old new → AsksInputs form told Memory old new
inputs_memory None told status old new asked = asked
inputs_memory (Some form) told status old new asked = if_form (is_from_outside form) form told status Memory old new (λ files. form_memory form files status old new) asked

-- telling of a status asks for no file
pub inputs_told : (form : Option Form) (told : Option Files) (status result : Status) (old new : Names) → AsksInputs form told status old new
    → (result ≡ status) ⊎ (result ≡ Memory) → AsksInputs form told result old new
inputs_told form told status result old new asked (inl e) = subst (λ (s : Status). AsksInputs form told s old new) (sym e) asked
inputs_told form told status result old new asked (inr e) = subst (λ (s : Status). AsksInputs form told s old new) (sym e) (inputs_memory form told status old new asked)

-- the same by what the words were read as
pub boot_words : (form : Option Form) (told : Option Files) (file name given named : List ℕ) (status : Status) (old new : Names) → form ≡ Some (boot given named) → file ≡ given → name ≡ named
    → IfSome told (λ files. AsksForm (boot file name) files status old new) → AsksInputs form told status old new
boot_words form told file name given named status old new is same same' asked =
    subst (λ (f : Option Form). AsksInputs f told status old new) (sym is)
    (subst (λ (n : List ℕ). AsksInputs (Some (boot given n)) told status old new) same' (subst (λ (f : List ℕ). AsksInputs (Some (boot f name)) told status old new) same asked))

pub following_words : (form : Option Form) (told : Option Files) (file name plan given named other : List ℕ) (status : Status) (old new : Names)
    → form ≡ Some (following given named other) → file ≡ given → name ≡ named → plan ≡ other
    → IfSome told (λ files. AsksForm (following file name plan) files status old new) → AsksInputs form told status old new
following_words form told file name plan given named other status old new is same same' same'' asked =
    subst (λ (f : Option Form). AsksInputs f told status old new) (sym is)
    (subst (λ (o : List ℕ). AsksInputs (Some (following given named o)) told status old new) same''
    (subst (λ (n : List ℕ). AsksInputs (Some (following given n plan)) told status old new) same'
    (subst (λ (f : List ℕ). AsksInputs (Some (following f name plan)) told status old new) same asked)))

pub scripted_words : (form : Option Form) (told : Option Files) (task : Task) (file name course given named other : List ℕ) (scripts : List (List ℕ)) (status : Status) (old new : Names)
    → form ≡ Some (scripted task given named other scripts) → file ≡ given → name ≡ named → course ≡ other
    → IfSome told (λ files. AsksForm (scripted task file name course scripts) files status old new) → AsksInputs form told status old new
scripted_words form told task file name course given named other scripts status old new is same same' same'' asked =
    subst (λ (f : Option Form). AsksInputs f told status old new) (sym is)
    (subst (λ (o : List ℕ). AsksInputs (Some (scripted task given named o scripts)) told status old new) same''
    (subst (λ (n : List ℕ). AsksInputs (Some (scripted task given n course scripts)) told status old new) same'
    (subst (λ (f : List ℕ). AsksInputs (Some (scripted task f name course scripts)) told status old new) same asked)))

pub side_by_side_words : (form : Option Form) (told : Option Files) (file name given named : List ℕ) (scripts : List (List ℕ)) (status : Status) (old new : Names)
    → form ≡ Some (side_by_side given named scripts) → file ≡ given → name ≡ named
    → IfSome told (λ files. AsksForm (side_by_side file name scripts) files status old new) → AsksInputs form told status old new
side_by_side_words form told file name given named scripts status old new is same same' asked =
    subst (λ (f : Option Form). AsksInputs f told status old new) (sym is)
    (subst (λ (n : List ℕ). AsksInputs (Some (side_by_side given n scripts)) told status old new) same'
    (subst (λ (f : List ℕ). AsksInputs (Some (side_by_side f name scripts)) told status old new) same asked))
