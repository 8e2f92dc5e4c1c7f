-- What a line leaves.
use Rattle.std.specs.Prelude.{◌≡◌, ℕ, if◌then◌else◌, List, length, nat_lt, Result, Ok, Err}
use Rattle.cf_types.specs.declared.machine.Machine.{Machine}
use Rattle.cf_types.specs.declared.tables.Tables.{Tables}
use Rattle.config_rules.specs.MachineText.{after_line, line_form}
use Rattle.machine_text.specs.declared.line.MachineStop.{MachineStop}
use Rattle.machine_text.specs.declared.line.MachineStop.TheVariants as stops
use Rattle.machine_text.specs.declared.stop.LineStop.{LineStop}
use Rattle.machine_text.specs.declared.stop.LineStop.TheVariants.{Code, Memory}

-- what a call left is what it should be, unless memory ran out
abbrev pub Leaves : {A : Type 0} → Result Machine ℕ → Result A LineStop → Machine → Type 0
Leaves whole (Ok done) m = whole ≡ Ok m
Leaves whole (Err (Code code)) m = whole ≡ Err code
Leaves whole (Err Memory) m = Unit {0}

-- what a call answers is what the text gives, unless memory ran out
abbrev pub Gives : Result Machine (ℕ × ℕ) → Result Machine MachineStop → Type 0
Gives whole (Ok m) = whole ≡ Ok m
Gives whole (Err (stops.Fault line code)) = whole ≡ Err (line, code)
Gives whole (Err stops.Memory) = Unit {0}

-- the machine after a line of these words; as it was where there are none
abbrev pub after_words : Tables → Machine → List (List ℕ) → Result Machine ℕ
after_words t m words = if nat_lt 0 (length words) then after_line t m (line_form words) else Ok m
