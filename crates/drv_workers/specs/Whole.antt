-- A board whose scripts have all run to their end, or stand still.
use Rattle.std.specs.Prelude.{◌≡◌, ◌≢◌, ◌⊎◌, ℕ}
use Rattle.history_laws.specs.Reliable.{IsReliable}
use Rattle.script_laws.specs.Whole.{AllRanWhole}
use Rattle.dev_board.specs.Shown.{Shown}
use Rattle.progress_laws.specs.Still.{IsStuck}
use Rattle.board_lock.specs.Boards.{scripts_of}

-- as many scripts have ended as there are; the history begins with the boot, and each command of each script was answered once,
-- in the order of its script; the history is reliable
pub record IsWhole (ended : ℕ) (b : Shown) : Type 0 where
  pub all : ended ≡ scripts_of b.world
  pub whole : AllRanWhole b.events b.world
  pub reliable : IsReliable b.events b.world

-- not as many scripts have ended as there are; nobody goes on, and some wait; the history is reliable
pub record StandsStill (ended : ℕ) (b : Shown) : Type 0 where
  pub some : ended ≢ scripts_of b.world
  pub stuck : IsStuck b.world
  pub reliable : IsReliable b.events b.world

-- how a run of scripts may end
abbrev pub IsOver : ℕ → Shown → Type 0
IsOver ended b = IsWhole ended b ⊎ StandsStill ended b
