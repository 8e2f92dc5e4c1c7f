-- The forms that the words of a program may have.
use Rattle.std.specs.Prelude.{◌≡◌, ℕ, ◌≤◌, ◌-◌, Bool, true, false, ◌&&◌, ◌==◌, nat_le, nat_lt, not, Option, Some, None, option_map, option_and_then, unwrap_or, Result, List, [], ◌∷◌, length, map, slice_index, slice_index_or, string_bytes, codes, if◌then◌else◌, ⊤, ℤ, pos, int_le, nat_abs}
use Rattle.std.specs.Prelude as std
use Rattle.std.specs.List.{list_all}
use Rattle.std.specs.Str.{bytes_eq}
use Rattle.cf_text.specs.Shapes.{number}
use Rattle.config_rules.specs.Form.{given}
use Rattle.app_words.specs.declared.program.Program.{Program}
use Rattle.app_words.specs.declared.program.Program.TheVariants.{Devconf, Drvrun, Drvall, Devwhy}
use Rattle.app_words.specs.declared.words.Task.{Task}
use Rattle.app_words.specs.declared.words.Task.TheVariants.{Play, Replay, Upgrade, Watch}
use Rattle.app_words.specs.declared.words.Words.{Words}
use Rattle.app_words.specs.declared.words.Words.TheVariants as words
use Rattle.app_words.specs.declared.words.WordStop.{WordStop}
use Rattle.clap.specs.declared.error.kind.ErrorKind.{ErrorKind}
use Rattle.clap.specs.declared.error.kind.ErrorKind.TheVariants as kind
use Rattle.app_words.specs.declared.words.WordStop.TheVariants.{Usage, Memory}

-- what words ask for: the listing of a configuration, the sources that it selects, the boot of a machine by a
-- configuration, the boot of a generated machine with so many spots, a plan of tables that come and go, or a boot with scripts
-- behind it, whose course a file has, or which run side by side
pub data Form : Type 0 where
  ioconf : List ℕ → Form
  sources : List ℕ → Form
  boot : List ℕ → List ℕ → Form
  load : ℕ → Form
  following : List ℕ → List ℕ → List ℕ → Form
  scripted : Task → List ℕ → List ℕ → List ℕ → List (List ℕ) → Form
  side_by_side : List ℕ → List ℕ → List (List ℕ) → Form

-- a word that is not empty and does not begin with `-`
abbrev pub is_operand : List ℕ → Bool
is_operand word = nat_lt 0 (length word) && not (slice_index word 0 == 45)

-- `FILE`
abbrev pub file_in : List (List ℕ) → Option (List ℕ)
file_in [] = None
file_in (file ∷ []) = Some file
file_in (file ∷ other ∷ more) = None

-- `FILE MACHINE`
abbrev pub boot_form : List (List ℕ) → Option Form
boot_form [] = None
boot_form (file ∷ []) = None
boot_form (file ∷ machine ∷ []) = Some (boot file machine)
boot_form (file ∷ machine ∷ other ∷ more) = None

-- `FILE MACHINE PLAN`
abbrev pub following_form : List (List ℕ) → Option Form
following_form [] = None
following_form (file ∷ []) = None
following_form (file ∷ machine ∷ []) = None
following_form (file ∷ machine ∷ plan ∷ []) = Some (following file machine plan)
following_form (file ∷ machine ∷ plan ∷ other ∷ more) = None

-- a count of spots is from 1 to 1,000
abbrev pub in_count_range : ℤ → Bool
in_count_range v = int_le (pos 1) v && int_le v (pos 1000)

-- the count that a word spells, in the shape of a number
abbrev pub count_of : List ℕ → Option ℕ
count_of word = option_and_then (λ v. given (in_count_range v) (nat_abs v)) (number word)

-- `N`
abbrev pub load_form : List (List ℕ) → Option Form
load_form [] = None
load_form (word ∷ []) = option_map load (count_of word)
load_form (word ∷ other ∷ more) = None

-- there may be from 1 to 16 scripts
abbrev pub is_script_count : ℕ → Bool
is_script_count n = nat_le 1 n && nat_le n 16

-- `FILE MACHINE COURSE SCRIPT..`
abbrev pub scripted_form : Task → List (List ℕ) → Option Form
scripted_form task [] = None
scripted_form task (file ∷ []) = None
scripted_form task (file ∷ machine ∷ []) = None
scripted_form task (file ∷ machine ∷ course ∷ scripts) = given (is_script_count (length scripts)) (scripted task file machine course scripts)

-- `FILE MACHINE SCRIPT..`
abbrev pub side_by_side_form : List (List ℕ) → Option Form
side_by_side_form [] = None
side_by_side_form (file ∷ []) = None
side_by_side_form (file ∷ machine ∷ scripts) = given (is_script_count (length scripts)) (side_by_side file machine scripts)

-- the operands behind the first word, which is compared byte for byte
abbrev pub form_named : List ℕ → List (List ℕ) → Option Form
form_named word operands =
    if bytes_eq word (codes "ioconf") then option_map ioconf (file_in operands)
    else (if bytes_eq word (codes "files") then option_map sources (file_in operands)
    else (if bytes_eq word (codes "boot") then boot_form operands
    else (if bytes_eq word (codes "load") then load_form operands
    else (if bytes_eq word (codes "play") then scripted_form Play operands
    else (if bytes_eq word (codes "replay") then scripted_form Replay operands
    else (if bytes_eq word (codes "upgrade") then scripted_form Upgrade operands
    else (if bytes_eq word (codes "watch") then scripted_form Watch operands
    else (if bytes_eq word (codes "tables") then following_form operands else None))))))))

-- the form of the words of `devconf`: each word behind the first is an operand
abbrev pub devconf_form : List (List ℕ) → Option Form
devconf_form [] = None
devconf_form (word ∷ operands) = if list_all is_operand operands then form_named word operands else None

-- the form of the words of `drvrun`: each word is an operand
abbrev pub drvrun_form : List (List ℕ) → Option Form
drvrun_form words = if list_all is_operand words then side_by_side_form words else None

-- a bound on worlds is from 1 to 4,294,967,295
abbrev pub in_bound_range : ℤ → Bool
in_bound_range v = int_le (pos 1) v && int_le v (pos 4294967295)

-- the bound that a word spells, in the shape of a number
abbrev pub bound_of : List ℕ → Option ℕ
bound_of word = option_and_then (λ v. given (in_bound_range v) (nat_abs v)) (number word)

-- `N`, and behind it the words of `drvrun`
abbrev pub bounded_form : List (List ℕ) → Option Form
bounded_form [] = None
bounded_form (word ∷ words) = option_and_then (λ most. drvrun_form words) (bound_of word)

-- the word `-w`
abbrev pub is_bound_word : List ℕ → Bool
is_bound_word word = bytes_eq word (codes "-w")

-- the form of the words of `drvall`: those of `drvrun`, maybe behind `-w N`
abbrev pub drvall_form : List (List ℕ) → Option Form
drvall_form [] = None
drvall_form (word ∷ words) = if is_bound_word word then bounded_form words else drvrun_form (word ∷ words)

-- how many words are before those that `drvrun` has
abbrev pub bound_words : List (List ℕ) → ℕ
bound_words [] = 0
bound_words (word ∷ words) = if is_bound_word word then 2 else 0

-- the bound on worlds where no word sets it
abbrev pub MOST_WORLDS : ℕ
MOST_WORLDS = 1000000

-- the bound that a first word sets
abbrev pub first_bound : List (List ℕ) → ℕ
first_bound [] = MOST_WORLDS
first_bound (word ∷ words) = unwrap_or (bound_of word) MOST_WORLDS

-- the bound on worlds that the words of `drvall` set
abbrev pub most_worlds : List (List ℕ) → ℕ
most_worlds [] = MOST_WORLDS
most_worlds (word ∷ words) = if is_bound_word word then first_bound words else MOST_WORLDS

-- `FILE NAME` or `FILE MACHINE NAME`: the name is of no file
abbrev pub named_form : List (List ℕ) → Option Form
named_form [] = None
named_form (file ∷ []) = None
named_form (file ∷ name ∷ []) = Some (ioconf file)
named_form (file ∷ machine ∷ name ∷ []) = Some (boot file machine)
named_form (file ∷ machine ∷ name ∷ other ∷ more) = None

-- the name that the words of `devwhy` ask about: the last one
abbrev pub asked_name : List (List ℕ) → List ℕ
asked_name words = slice_index_or words (length words - 1) []

-- the form of the words of `devwhy`: each word is an operand
abbrev pub devwhy_form : List (List ℕ) → Option Form
devwhy_form words = if list_all is_operand words then named_form words else None

-- the form of the words behind a program's name
abbrev pub form_of : Program → List (List ℕ) → Option Form
form_of Devconf words = devconf_form words
form_of Drvrun words = drvrun_form words
form_of Drvall words = drvall_form words
form_of Devwhy words = devwhy_form words

-- the configuration of a form, by its name
abbrev pub config_of : Form → List ℕ
config_of (ioconf file) = file
config_of (sources file) = file
config_of (boot file machine) = file
config_of (following file machine plan) = file
config_of (scripted task file machine course scripts) = file
config_of (side_by_side file machine scripts) = file
config_of (load n) = codes "conf"

-- the machine file of a form, by its name
abbrev pub machine_in : Form → Option (List ℕ)
machine_in (ioconf file) = None
machine_in (sources file) = None
machine_in (boot file machine) = Some machine
machine_in (following file machine plan) = Some machine
machine_in (scripted task file machine course scripts) = Some machine
machine_in (side_by_side file machine scripts) = Some machine
machine_in (load n) = Some (codes "mach")

-- whether the inputs of a form are compiled; the sources are selected later
abbrev pub is_compiled : Form → Bool
is_compiled (ioconf file) = true
is_compiled (sources file) = false
is_compiled (boot file machine) = true
is_compiled (following file machine plan) = true
is_compiled (scripted task file machine course scripts) = true
is_compiled (side_by_side file machine scripts) = true
is_compiled (load n) = true

-- whether the inputs of a form are read from files from outside
abbrev pub is_from_outside : Form → Bool
is_from_outside (ioconf file) = true
is_from_outside (sources file) = false
is_from_outside (boot file machine) = true
is_from_outside (following file machine plan) = true
is_from_outside (scripted task file machine course scripts) = true
is_from_outside (side_by_side file machine scripts) = true
is_from_outside (load n) = false

-- words are refused where they say nothing
abbrev pub IsStopped : {A : Type 0} → Option A → WordStop → Type 0
IsStopped said Usage = said ≡ None
IsStopped said Memory = ⊤

-- the words were read as their form, or refused where they have none
abbrev pub HasForm : Option Form → Result Words WordStop → Type 0
HasForm form (std.Ok (words.Ioconf file)) = form ≡ Some (ioconf file.now)
HasForm form (std.Ok (words.Files file)) = form ≡ Some (sources file.now)
HasForm form (std.Ok (words.Boot file machine)) = form ≡ Some (boot file.now machine.now)
HasForm form (std.Ok (words.Follow file machine plan)) = form ≡ Some (following file.now machine.now plan.now)
HasForm form (std.Ok (words.Load count)) = (form ≡ Some (load count)) × (1 ≤ count) × (count ≤ 1000)
HasForm form (std.Ok (words.Scripted task file machine course scripts)) =
    (form ≡ Some (scripted task file.now machine.now course.now (map string_bytes scripts.now))) × (1 ≤ length scripts.now) × (length scripts.now ≤ 16)
HasForm form (std.Ok (words.Run file machine scripts)) =
    (form ≡ Some (side_by_side file.now machine.now (map string_bytes scripts.now))) × (1 ≤ length scripts.now) × (length scripts.now ≤ 16)
HasForm form (std.Err stop) = IsStopped form stop

-- a parse that failed for another cause than memory refuses the words
abbrev pub stop_of : ErrorKind → WordStop
stop_of kind.OutOfMemory = Memory
stop_of _ = Usage
