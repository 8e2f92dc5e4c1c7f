-- How a run is left.
use Rattle.std.proofs.Common.{inl, inr}
use Rattle.cf_types.specs.declared.machine.Ticket.{Ticket}
use Rattle.board_lock.specs.Boards.{FinishedShown}
use Rattle.drv_workers.specs.Whole.{IsOver}
use Rattle.history_laws.specs.Reliable.{IsReliable}
use Rattle.run_rules.specs.declared.world.Setup.{Setup}
use Rattle.app_run.specs.Ran.{HasRunOut, RanTogether}

pub run_out : (P : Ticket → Type 0) (s : Setup) (left : FinishedShown) → (IsReliable left.board.events left.board.world → RanTogether P s left.board.events left.board.world) → IsOver left.ended left.board
    → HasRunOut P s left
run_out P s left together (inl whole) = inl (whole.all, record { together = together whole.reliable; whole = whole.whole })
run_out P s left together (inr still) = inr (still.some, record { together = together still.reliable; stuck = still.stuck })
