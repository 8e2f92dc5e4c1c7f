-- What the calls that read a watch file leave.
use Rattle.std.specs.Prelude.{◌≡◌, ℕ, ◌++◌, List, All, Option, Some, None, option_and_then, option_to_list, Result, Ok, Err, ⊤}
use Rattle.std.specs.Result.{result_ok}
use Rattle.machine_text.specs.declared.stop.LineStop.{LineStop}
use Rattle.machine_text.specs.declared.stop.LineStop.TheVariants.{Code, Memory}
use Rattle.script_text.specs.declared.watch_line.WatchLine.{WatchLine}
use Rattle.script_text.specs.WatchText.{FormedWatchLine, watch_code_after}

-- what is said was added to the lines, or it has this code behind them, or memory ran out
abbrev pub AddsLine : Option (Result WatchLine ℕ) → List WatchLine → List WatchLine → Result ⊤ LineStop → Type 0
AddsLine said old new (Ok done) =
    (option_and_then (watch_code_after old) said ≡ None) × (new ≡ old ++ option_to_list (option_and_then result_ok said))
AddsLine said old new (Err (Code code)) = option_and_then (watch_code_after old) said ≡ Some code
AddsLine said old new (Err Memory) = ⊤

-- the lines stay formed
abbrev pub KeepsFormed : ℕ → List WatchLine → List WatchLine → Type 0
KeepsFormed callers old new = All (FormedWatchLine callers) old → All (FormedWatchLine callers) new
