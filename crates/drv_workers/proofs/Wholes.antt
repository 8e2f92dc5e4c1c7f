-- A board whose scripts have all ended, or stand still.
use Rattle.std.proofs.Common.{◌≡◌, ◌≢◌, ◌<◌, ℕ, ap, length, sym, ◌∙◌}
use Rattle.run_rules.specs.declared.world.Setup.{Setup}
use Rattle.run_rules.specs.Counts.{ends_of}
use Rattle.run_rules.specs.Run.{Run}
use Rattle.run_rules.specs.World.{World}
use Rattle.run_sound.specs.Kept.{MayRun}
use Rattle.history_laws.proofs.Always.{always_reliable}
use Rattle.script_laws.proofs.Runs.{all_ran_whole}
use Rattle.dev_board.specs.Shown.{Shown, began}
use Rattle.board_lock.specs.Boards.{scripts_of}
use Rattle.board_lock.proofs.Opened.{same_setup}
use Rattle.progress_laws.specs.Still.{IsStuck}
use Rattle.drv_workers.specs.Whole.{IsWhole, StandsStill}

-- a run of the scripts of a board, with as many ends as there are scripts
pub whole_run : (b : Shown) (ended : ℕ) → MayRun b.world.setup → 0 < scripts_of b.world → Run (began b) b.events b.world → ended ≡ scripts_of b.world → ended ≡ ends_of b.events → IsWhole ended b
whole_run b ended may some run all ends = record {
  all = all;
  whole = all_ran_whole b.world.setup b.events b.world may run some (sym ends ∙ all);
  reliable = always_reliable b.world.setup b.events b.world may run;
}

-- nobody goes on, and not as many have ended
pub stands_still : (b : Shown) (ended : ℕ) → MayRun b.world.setup → Run (began b) b.events b.world → ended ≢ scripts_of b.world → IsStuck b.world → StandsStill ended b
stands_still b ended may run some stuck = record { some = some; stuck = stuck; reliable = always_reliable b.world.setup b.events b.world may run }

-- two boards that began with one world have as many scripts
pub same_count : (b left : Shown) (w : World) → began b ≡ w → began left ≡ w → scripts_of b.world ≡ scripts_of left.world
same_count b left w is was = ap (λ (s : Setup). length s.scripts) (same_setup b w is ∙ sym (same_setup left w was))
