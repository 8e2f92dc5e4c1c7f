-- What the calls leave.
use Rattle.std.specs.Prelude.{◌≡◌, ℕ, ◌++◌, true, false, List, length, Option, Some, None, option_and_then, option_to_list, Result, Ok, Err, ⊤}
use Rattle.std.specs.List.{list_all}
use Rattle.std.specs.Result.{result_ok}
use Rattle.cf_types.specs.declared.machine.Command.{Command}
use Rattle.config_rules.specs.MachineText.{words_of}
use Rattle.config_rules.specs.ScriptText.{code_after, is_turn, turns_code, turns_of}
use Rattle.machine_text.specs.declared.stop.LineStop.{LineStop}
use Rattle.machine_text.specs.declared.stop.LineStop.TheVariants.{Code, Memory}
use Rattle.script_text.specs.declared.stop.ScriptStop.{ScriptStop}
use Rattle.script_text.specs.declared.stop.ScriptStop.TheVariants as stops

-- a line's stop with the line's number
abbrev pub stop_at : ℕ → LineStop → ScriptStop
stop_at line (Code code) = stops.Fault line code
stop_at line Memory = stops.Memory

-- what a call answers is what the words give, unless memory ran out
abbrev pub Leaves : {A : Type 0} → Result A ℕ → Result A LineStop → Type 0
Leaves whole (Ok x) = whole ≡ Ok x
Leaves whole (Err (Code code)) = whole ≡ Err code
Leaves whole (Err Memory) = ⊤

-- the same of what may say nothing
abbrev pub Says : {A : Type 0} → Option (Result A ℕ) → Result (Option A) LineStop → Type 0
Says said (Ok None) = said ≡ None
Says said (Ok (Some c)) = said ≡ Some (Ok c)
Says said (Err (Code code)) = said ≡ Some (Err code)
Says said (Err Memory) = ⊤

-- what is said was added to the commands, or it has this code after them, or memory ran out
abbrev pub Adds : Option (Result Command ℕ) → List Command → List Command → Result ⊤ LineStop → Type 0
Adds said old new (Ok done) =
    (option_and_then (code_after (length old)) said ≡ None) × (new ≡ old ++ option_to_list (option_and_then result_ok said))
Adds said old new (Err (Code code)) = option_and_then (code_after (length old)) said ≡ Some code
Adds said old new (Err Memory) = ⊤

-- the numbers of these words were added to the turns, or one is not that of a caller, or memory ran out
abbrev pub AddsWords : ℕ → List (List ℕ) → List ℕ → List ℕ → Result ⊤ LineStop → Type 0
AddsWords callers words old new (Ok done) = (list_all (is_turn callers) words ≡ true) × (new ≡ old ++ turns_of words)
AddsWords callers words old new (Err (Code code)) = list_all (is_turn callers) words ≡ false
AddsWords callers words old new (Err Memory) = ⊤

-- the turns of a line were added, or it has this code, or memory ran out
abbrev pub AddsTurns : ℕ → List ℕ → List ℕ → List ℕ → Result ⊤ LineStop → Type 0
AddsTurns callers line old new (Ok done) = (turns_code callers line ≡ None) × (new ≡ old ++ turns_of (words_of line))
AddsTurns callers line old new (Err (Code code)) = turns_code callers line ≡ Some code
AddsTurns callers line old new (Err Memory) = ⊤

-- what a call answers is what the text gives, unless memory ran out
abbrev pub Gives : {A : Type 0} → Result A (ℕ × ℕ) → Result A ScriptStop → Type 0
Gives whole (Ok x) = whole ≡ Ok x
Gives whole (Err (stops.Fault line code)) = whole ≡ Err (line, code)
Gives whole (Err stops.Memory) = ⊤
