-- The status that a run of a program ends with.
use Rattle.std.specs.Prelude.{◌≡◌, ℕ, ◌≤◌, Result}
use Rattle.std.specs.Prelude as std
use Rattle.cf_io.specs.Faults.{Rose}
use Rattle.app_words.specs.declared.status.Status.{Status}
use Rattle.app_words.specs.declared.status.Status.TheVariants.{Ok, ConfigRefused, Usage, MachineRefused, ScriptRefused, HistoryRefused, Absent, TooLong, ReadFault, WriteFault, Memory, Stuck, Worlds, Unknown}

-- the number of a status
abbrev pub status_number : Status → ℕ
status_number Ok = 0
status_number (ConfigRefused file line code) = 1
status_number Usage = 2
status_number (MachineRefused line code) = 3
status_number (ScriptRefused which line code) = 4
status_number (HistoryRefused line) = 5
status_number (Absent name) = 6
status_number (TooLong name) = 7
status_number ReadFault = 8
status_number WriteFault = 9
status_number Memory = 10
status_number (Stuck waits) = 11
status_number (Worlds most) = 12
status_number (Unknown name) = 13

-- the status of what was found, or why nothing was
abbrev pub status_of : {A : Type 0} → Result A Status → Status
status_of (std.Ok found) = Ok
status_of (std.Err status) = status

-- the count of faults rose at `ReadFault`, or stands at its last value, and is as before at every other answer
abbrev pub Counts : {A : Type 0} → ℕ → ℕ → Result A Status → Type 0
Counts before after (std.Ok found) = after ≡ before
Counts before after (std.Err ReadFault) = (before ≤ after) × Rose before after
Counts before after (std.Err _) = after ≡ before
