-- The commands of a script and the turns of an order file, or the first bad line and its code. The commands follow
-- drvctl(8); the formats are this project's own.
use Rattle.std.specs.Prelude.{◌^◌, ◌≡◌, ℕ, ◌≤◌, Bool, true, false, not, ◌&&◌, ◌||◌, nat_le, nat_lt, if◌then◌else◌, List, [], ◌∷◌, length, map, filter_map, find, flat_map, bytes_eq, codes, Option, Some, None, is_some, option_map, option_to_list, Result, Ok, Err, ℤ, pos, nat_abs, int_le, All}
use Rattle.std.specs.List.{list_all, enumerate_from}
use Rattle.std.specs.Option.{option_map_or}
use Rattle.std.specs.Result.{result_ok}
use Rattle.cf_types.specs.declared.code.script.TheConstants.{NO_COMMAND, WRONG_WORDS, OUT_OF_RANGE, TOO_MANY_COMMANDS}
use Rattle.cf_types.specs.declared.machine.Command.{Command}
use Rattle.cf_types.specs.declared.machine.Command.TheVariants as command
use Rattle.cf_types.specs.declared.machine.Given.{Given}
use Rattle.cf_text.specs.Shapes.{is_name, number, in_range}
use Rattle.cf_types.specs.Lines.{lines_of}
use Rattle.config_rules.specs.Cut.{◌>>=◌}
use Rattle.config_rules.specs.Form.{given, ◌or◌}
use Rattle.config_rules.specs.MachineText.{words_of, has_bad_byte}

-- ---- operands

-- a name of at most 80 bytes
abbrev pub is_operand : List ℕ → Bool
is_operand word = is_name word && nat_le (length word) 80

-- an operand, where the word is one
abbrev pub operand : List ℕ → Result (List ℕ) ℕ
operand word = if is_operand word then Ok word else Err WRONG_WORDS

-- a number within a range
abbrev pub value_within : (ℤ → Bool) → Option ℤ → Result ℤ ℕ
value_within fits None = Err WRONG_WORDS
value_within fits (Some v) = if fits v then Ok v else Err OUT_OF_RANGE

-- the number that a word spells, within a range
abbrev pub number_within : (ℤ → Bool) → List ℕ → Result ℤ ℕ
number_within fits word = value_within fits (number word)

-- the same of a range without negative numbers
abbrev pub natural_within : (ℤ → Bool) → List ℕ → Result ℕ ℕ
natural_within fits word = number_within fits word >>= λ v. Ok (nat_abs v)

-- from 0 to 4294967295
abbrev pub is_value : ℤ → Bool
is_value v = int_le (pos 0) v && int_le v (pos 4294967295)

-- ---- commands

-- exactly one operand
abbrev pub one_operand : List (List ℕ) → Result (List ℕ) ℕ
one_operand (word ∷ []) = operand word
one_operand _ = Err WRONG_WORDS

-- no operand or one
abbrev pub operand_or_none : List (List ℕ) → Result (Option (List ℕ)) ℕ
operand_or_none [] = Ok None
operand_or_none words = one_operand words >>= λ name. Ok (Some name)

-- words in pairs: a locator's name and a number word
abbrev pub are_pairs : List (List ℕ) → Bool
are_pairs [] = true
are_pairs (name ∷ []) = false
are_pairs (name ∷ value ∷ words) = is_operand name && is_some (number value) && are_pairs words

-- the locators of these pairs with their values
abbrev pub given_in : List (List ℕ) → Result (List Given) ℕ
given_in [] = Ok []
given_in (name ∷ []) = Ok []
given_in (name ∷ value ∷ words) =
    number_within in_range value >>= λ v. given_in words >>= λ more. Ok (record { name = name; value = v } ∷ more)

-- up to 16 pairs `loc V`; the words of all pairs come before the range of any value
abbrev pub pairs_of : List (List ℕ) → Result (List Given) ℕ
pairs_of words = if nat_le (length words) 32 && are_pairs words then given_in words else Err WRONG_WORDS

-- `-x D` behind `open`
abbrev pub sole_form : List ℕ → List ℕ → Result Command ℕ
sole_form option device = if bytes_eq option (codes "-x") then (operand device >>= λ name. Ok (command.OpenSole name)) else Err WRONG_WORDS

-- `open D` or `open -x D`
abbrev pub open_form : List (List ℕ) → Result Command ℕ
open_form (device ∷ []) = operand device >>= λ name. Ok (command.OpenDev name)
open_form (option ∷ device ∷ []) = sole_form option device
open_form _ = Err WRONG_WORDS

-- `io D V`
abbrev pub io_form : List (List ℕ) → Result Command ℕ
io_form (device ∷ value ∷ []) = operand device >>= λ name. natural_within is_value value >>= λ v. Ok (command.Io name v)
io_form _ = Err WRONG_WORDS

-- `rescan D A`, with the words behind it
abbrev pub rescan_on : List ℕ → List ℕ → List (List ℕ) → Result Command ℕ
rescan_on device attr words =
    operand device >>= λ name. operand attr >>= λ bus. pairs_of words >>= λ pairs. Ok (command.Rescan name (Some bus) pairs)

-- `rescan D`, `rescan D A`, or the latter with up to 16 pairs `loc V`
abbrev pub rescan_form : List (List ℕ) → Result Command ℕ
rescan_form [] = Err WRONG_WORDS
rescan_form (device ∷ []) = operand device >>= λ name. Ok (command.Rescan name None [])
rescan_form (device ∷ attr ∷ words) = rescan_on device attr words

-- a command on one operand
abbrev pub on_one : (List ℕ → Command) → List (List ℕ) → Result Command ℕ
on_one make words = one_operand words >>= λ name. Ok (make name)

-- a command on no operand or one
abbrev pub on_any : (Option (List ℕ) → Command) → List (List ℕ) → Result Command ℕ
on_any make words = operand_or_none words >>= λ name. Ok (make name)

-- a command's word, and what the other words make of it
pub record CommandRow : Type 0 where
  pub word : List ℕ
  pub form : List (List ℕ) → Result Command ℕ

-- a row of the table of commands
abbrev pub row : List ℕ → (List (List ℕ) → Result Command ℕ) → CommandRow
row word form = record { word = word; form = form }

-- the commands by their words
unfoldable pub commands : List CommandRow
commands =
    row (codes "open") open_form
    ∷ row (codes "close") (on_one command.CloseDev)
    ∷ row (codes "io") io_form
    ∷ row (codes "detach") (on_one command.Detach)
    ∷ row (codes "rescan") rescan_form
    ∷ row (codes "list") (on_any command.ListDev)
    ∷ row (codes "tree") (on_any command.TreeDev)
    ∷ row (codes "suspend") (on_one command.Suspend)
    ∷ row (codes "resume") (on_one command.Resume)
    ∷ row (codes "resumetree") (on_one command.ResumeTree)
    ∷ row (codes "plug") (on_one command.Plug)
    ∷ row (codes "unplug") (on_one command.Unplug)
    ∷ []

-- the row of this word
abbrev pub row_of : List ℕ → Option CommandRow
row_of word = find (λ r. bytes_eq r.word word) commands

-- the command of a word with others behind it, where the word is that of one
abbrev pub command_of : List ℕ → List (List ℕ) → Result Command ℕ
command_of word words = option_map_or (λ r. r.form words) (row_of word) (Err NO_COMMAND)

-- ---- scripts

-- what the words of a line say: nothing where there are none, else a command or its code
abbrev pub words_say : List (List ℕ) → Option (Result Command ℕ)
words_say [] = None
words_say (word ∷ words) = Some (command_of word words)

-- what a line says; a byte that is not allowed comes before the other codes of its line
abbrev pub line_says : List ℕ → Option (Result Command ℕ)
line_says line = if has_bad_byte line then Some (Err WRONG_WORDS) else words_say (words_of line)

-- what a script says, with the numbers of the lines
abbrev pub sayings : List ℕ → List (ℕ × Result Command ℕ)
sayings text = filter_map (λ l. option_map (λ said. (l.0, said)) (line_says l.1)) (enumerate_from 1 (lines_of text))

-- the code of what is said after so many others: a script has at most 500 commands
abbrev pub code_after : ℕ → Result Command ℕ → Option ℕ
code_after before (Ok c) = given (nat_le 500 before) TOO_MANY_COMMANDS
code_after before (Err code) = Some code

-- the bad lines of a script with their codes
abbrev pub bad_sayings : List ℕ → List (ℕ × ℕ)
bad_sayings text = filter_map (λ s. option_map (λ code. (s.1.0, code)) (code_after s.0 s.1.1)) (enumerate_from 0 (sayings text))

-- the commands that a script says
abbrev pub commands_in : List ℕ → List Command
commands_in text = filter_map (λ s. result_ok s.1) (sayings text)

-- all of these, unless a line is bad: then the first bad line and its code
abbrev pub unless_bad : {A : Type 0} → List (ℕ × ℕ) → List A → Result (List A) (ℕ × ℕ)
unless_bad [] xs = Ok xs
unless_bad (fault ∷ faults) xs = Err fault

-- the commands of a script, or the first bad line and its code
unfoldable pub commands_of : List ℕ → Result (List Command) (ℕ × ℕ)
commands_of text = unless_bad (bad_sayings text) (commands_in text)

-- ---- order files

-- the number of a caller, from 1
abbrev pub is_caller : ℕ → ℤ → Bool
is_caller callers v = int_le (pos 1) v && int_le v (pos callers)

-- a word that spells a number
abbrev pub spells_number : List ℕ → Bool
spells_number word = is_some (number word)

-- a word that spells the number of a caller
abbrev pub is_turn : ℕ → List ℕ → Bool
is_turn callers word = option_map_or (is_caller callers) (number word) false

-- the code of a line: a byte is not allowed or a word spells no number, or else one is not the number of a caller
abbrev pub turns_code : ℕ → List ℕ → Option ℕ
turns_code callers line =
    given (has_bad_byte line || not (list_all spells_number (words_of line))) WRONG_WORDS
    or given (not (list_all (is_turn callers) (words_of line))) OUT_OF_RANGE

-- the bad lines of an order file with their codes
abbrev pub bad_turns : ℕ → List ℕ → List (ℕ × ℕ)
bad_turns callers text = filter_map (λ l. option_map (λ code. (l.0, code)) (turns_code callers l.1)) (enumerate_from 1 (lines_of text))

-- the numbers that these words spell
abbrev pub turns_of : List (List ℕ) → List ℕ
turns_of words = filter_map (λ word. option_map nat_abs (number word)) words

-- the turns of an order file for so many callers, or the first bad line and its code
unfoldable pub order_of : ℕ → List ℕ → Result (List ℕ) (ℕ × ℕ)
order_of callers text = unless_bad (bad_turns callers text) (turns_of (flat_map words_of (lines_of text)))

-- ---- formed scripts

-- the names of a command
abbrev pub names_in : Command → List (List ℕ)
names_in (command.OpenDev device) = device ∷ []
names_in (command.OpenSole device) = device ∷ []
names_in (command.CloseDev device) = device ∷ []
names_in (command.Io device value) = device ∷ []
names_in (command.Detach device) = device ∷ []
names_in (command.Rescan device None pairs) = device ∷ map (λ g. g.name) pairs
names_in (command.Rescan device (Some attr) pairs) = device ∷ attr ∷ map (λ g. g.name) pairs
names_in (command.ListDev device) = option_to_list device
names_in (command.TreeDev device) = option_to_list device
names_in (command.Suspend device) = device ∷ []
names_in (command.Resume device) = device ∷ []
names_in (command.ResumeTree device) = device ∷ []
names_in (command.Plug spot) = spot ∷ []
names_in (command.Unplug spot) = spot ∷ []

-- a transfer's value is below 2^32; a rescan's pairs are few, and there are none without an attribute
abbrev pub is_bounded : Command → Bool
is_bounded (command.Io device value) = nat_lt value (2 ^ 32)
is_bounded (command.Rescan device None pairs) = nat_le (length pairs) 0
is_bounded (command.Rescan device (Some attr) pairs) = nat_le (length pairs) 16
is_bounded _ = true

-- a command's names are operands; a transfer's value fits, and a rescan gives at most 16 pairs, and none where it names no attribute
pub record FormedCommand (c : Command) : Type 0 where
  pub names : All (λ name. is_operand name ≡ true) (names_in c)
  pub bounded : is_bounded c ≡ true

-- at most 500 formed commands
pub record FormedScript (script : List Command) : Type 0 where
  pub few : length script ≤ 500
  pub commands : All FormedCommand script
