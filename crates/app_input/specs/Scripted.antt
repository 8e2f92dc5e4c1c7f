-- What the scripts of a run and the file with their course give.
use Rattle.std.specs.Prelude.{◌≡◌, ℕ, ◌+◌, ◌≤◌, ◌⊎◌, nat_le, Option, Some, None, IfSome, All, Result, List, [], ◌∷◌, map, filter_map, length, slice_get, if◌then◌else◌, ⊤}
use Rattle.std.specs.Prelude as std
use Rattle.std.specs.List.{enumerate_from}
use Rattle.std.specs.Result.{result_err, result_ok}
use Rattle.cf_types.specs.declared.machine.Command.{Command}
use Rattle.cf_io.specs.declared.files.TheConstants.{MAX_FILE}
use Rattle.config_rules.specs.Cut.{◌>>=◌}
use Rattle.config_rules.specs.Reading.{Files}
use Rattle.config_rules.specs.ScriptText.{FormedScript, commands_of, order_of}
use Rattle.script_text.specs.WatchText.{FormedWatchLine, watch_of}
use Rattle.app_input.specs.declared.scripts.Course.{Course}
use Rattle.app_input.specs.declared.scripts.Course.TheVariants as courses
use Rattle.app_input.specs.declared.scripts.Scripted.{Scripted}
use Rattle.app_words.specs.declared.status.Status.{Status}
use Rattle.app_words.specs.declared.status.Status.TheVariants.{ScriptRefused, Absent, TooLong, ReadFault, Memory}
use Rattle.app_words.specs.declared.words.Task.{Task}
use Rattle.app_words.specs.declared.words.Task.TheVariants.{Play, Replay, Upgrade, Watch}

-- what a file gives by its text; one that is not there, or has more bytes than a file may have, is refused
abbrev pub file_gives : {A : Type 0} → (List ℕ → Result A Status) → List ℕ → Option (List ℕ) → Result A Status
file_gives by_text name None = std.Err (Absent name)
file_gives by_text name (Some text) = if nat_le (length text) MAX_FILE then by_text text else std.Err (TooLong name)

-- what a text gives, or the refusal of the file with this number
abbrev pub unless_bad_line : {A : Type 0} → ℕ → Result A (ℕ × ℕ) → Result A Status
unless_bad_line which (std.Ok x) = std.Ok x
unless_bad_line which (std.Err fault) = std.Err (ScriptRefused which fault.0 fault.1)

-- the script with this number and name
abbrev pub script_of : Files → ℕ → List ℕ → Result (List Command) Status
script_of files which name = file_gives (λ text. unless_bad_line which (commands_of text)) name (files name)

-- the course that a text has for so many callers: their turns, where it is an order file, or the lines of a watch file, each of
-- which has the number 0; a history is taken as it is
abbrev pub course_in : Task → ℕ → List ℕ → Result Course Status
course_in Play callers text = unless_bad_line 0 (order_of callers text) >>= λ turns. std.Ok (courses.Play turns)
course_in Replay callers text = std.Ok (courses.Replay text)
course_in Upgrade callers text = std.Ok (courses.Upgrade text)
course_in Watch callers text = unless_bad_line 0 (watch_of callers text) >>= λ lines. std.Ok (courses.Watch lines)

-- the task of a course
abbrev pub task_of : Course → Task
task_of (courses.Play turns) = Play
task_of (courses.Replay history) = Replay
task_of (courses.Upgrade history) = Upgrade
task_of (courses.Watch lines) = Watch

-- the course that the file of this name has
abbrev pub course_of : Task → Files → ℕ → List ℕ → Result Course Status
course_of task files callers name = file_gives (course_in task callers) name (files name)

-- the scripts with these names, numbered from n
abbrev pub scripts_from : Files → ℕ → List (List ℕ) → List (Result (List Command) Status)
scripts_from files n names = map (λ s. script_of files s.0 s.1) (enumerate_from n names)

-- the values, or the first refusal
abbrev pub unless_refused : {A : Type 0} → List Status → List A → Result (List A) Status
unless_refused [] xs = std.Ok xs
unless_refused (refusal ∷ refusals) xs = std.Err refusal

-- all that these files give, or the first refusal
abbrev pub all_of : {A : Type 0} → List (Result A Status) → Result (List A) Status
all_of results = unless_refused (filter_map result_err results) (filter_map result_ok results)

-- the scripts with these names, numbered from 1, or the first refusal
abbrev pub scripts_of : Files → List (List ℕ) → Result (List (List Command)) Status
scripts_of files names = all_of (scripts_from files 1 names)

-- the scripts, and then their course, or the first refusal
abbrev pub scripted_of : Task → Files → List (List ℕ) → List ℕ → Result Scripted Status
scripted_of task files names name =
    scripts_of files names >>= λ scripts. course_of task files (length names) name >>= λ course. std.Ok (record { scripts = scripts; course = course })

-- what a text says, or the refusal of the file with this number, or memory ran out
abbrev pub Says : {A : Type 0} → ℕ → Result A (ℕ × ℕ) → Result A Status → Type 0
Says which said (std.Ok x) = said ≡ std.Ok x
Says which said (std.Err (ScriptRefused number line code)) = (number ≡ which) × (said ≡ std.Err (line, code))
Says which said (std.Err Memory) = ⊤
Says which said (std.Err _) = ⊥

-- the course that a text has, or memory ran out
abbrev pub IsCourseOf : Task → ℕ → List ℕ → Result Course Status → Type 0
IsCourseOf task callers text answer = (answer ≡ std.Err Memory) ⊎ (course_in task callers text ≡ answer)

-- where the files are told, the answer is the one that they call for, unless reading failed or memory ran out
abbrev pub IsCalledFor : {A : Type 0} → Option Files → (Files → Result A Status) → Result A Status → Type 0
IsCalledFor told called answer =
    (answer ≡ std.Err ReadFault) ⊎ ((answer ≡ std.Err Memory) ⊎ IfSome told (λ files. called files ≡ answer))

-- a refusal is that of the file with this number and name
abbrev pub IsOfFile : ℕ → List ℕ → Status → Type 0
IsOfFile which name (ScriptRefused number line code) = number ≡ which
IsOfFile which name (Absent absent) = absent ≡ name
IsOfFile which name (TooLong long) = long ≡ name
IsOfFile which name ReadFault = ⊤
IsOfFile which name Memory = ⊤
IsOfFile which name _ = ⊥

-- a refusal is that of one of the scripts with these names, by its number from 1
abbrev pub IsOfScript : List (List ℕ) → Status → Type 0
IsOfScript names status = (place : ℕ) × (name : List ℕ) × (slice_get names place ≡ Some name) × IsOfFile (place + 1) name status

-- a refusal is that of a script or of the file with their course
abbrev pub IsOfScripted : List (List ℕ) → List ℕ → Status → Type 0
IsOfScripted names name status = IsOfScript names status ⊎ IsOfFile 0 name status

-- each turn is that of one of so many callers; a history has no more bytes than a file may have; the numbers in a watch file are in
-- their ranges
abbrev pub FormedCourse : ℕ → Course → Type 0
FormedCourse callers (courses.Play turns) = All (λ turn. (1 ≤ turn) × (turn ≤ callers)) turns
FormedCourse callers (courses.Replay history) = length history ≤ MAX_FILE
FormedCourse callers (courses.Upgrade history) = length history ≤ MAX_FILE
FormedCourse callers (courses.Watch lines) = All (FormedWatchLine callers) lines

-- from 1 to 16 scripts, each formed
pub record FormedScripts (scripts : List (List Command)) : Type 0 where
  pub some : 1 ≤ length scripts
  pub few : length scripts ≤ 16
  pub each : All FormedScript scripts

-- from 1 to 16 scripts, each formed, and a course for so many callers
pub record FormedRun (p : Scripted) : Type 0 where
  pub some : 1 ≤ length p.scripts
  pub few : length p.scripts ≤ 16
  pub scripts : All FormedScript p.scripts
  pub course : FormedCourse (length p.scripts) p.course
