-- What a history that is read again tells, and why it is not taken.
use Rattle.std.specs.Prelude.{◌≡◌, ℕ, ◌⊎◌, Result, List}
use Rattle.std.specs.Prelude as std
use Rattle.boot_laws.specs.Thorough.{IsThorough}
use Rattle.history_laws.specs.Reliable.{IsReliable}
use Rattle.history_replay.specs.declared.history.Replayed.{Replayed}
use Rattle.replay_laws.specs.Taken.{Takes}
use Rattle.run_rules.specs.declared.world.Setup.{Setup}
use Rattle.run_rules.specs.Reread.{reread}
use Rattle.run_rules.specs.Tree.{tree_lines}
use Rattle.run_rules.specs.World.{World, opening}
use Rattle.app_words.specs.declared.status.Status.{Status}
use Rattle.app_words.specs.declared.status.Status.TheVariants.{HistoryRefused, Memory}
use Rattle.app_tasks.specs.declared.replay.RetoldRun.{RetoldRun}

-- why a history is not taken: its first bad line
abbrev pub Untaken : Setup → List ℕ → Status → Type 0
Untaken setup history (HistoryRefused line) = reread (opening setup) history ≡ std.Err line
Untaken setup history status = ⊥

-- what a history is taken as, and that it is reliable and thorough; or why it is not taken, or memory ran out
abbrev pub Retells : Setup → List ℕ → Result Replayed Status → Type 0
Retells setup history (std.Ok told) =
    (w : World) × Takes setup history told.events w × IsReliable told.events w × IsThorough told.events w × (told.tree ≡ tree_lines w)
Retells setup history (std.Err status) = (status ≡ Memory) ⊎ Untaken setup history status

-- the same, handed out with what it was read by
abbrev pub RetellsRun : Setup → List ℕ → Result RetoldRun Status → Type 0
RetellsRun setup history (std.Ok run) = Retells setup history (std.Ok run.told)
RetellsRun setup history (std.Err status) = Retells setup history (std.Err status)
