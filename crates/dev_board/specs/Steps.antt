-- What a step over the parts of a board begins with, and what it leaves.
use Rattle.std.specs.Prelude.{◌≡◌, ◌<◌, ℕ, List, None, length}
use Rattle.ref_ledger.specs.declared.state.SlotState.{SlotState}
use Rattle.deed_effect.specs.Agreement.{slots_of}
use Rattle.dev_board.specs.StateKept.{BootFalls, StateKept, shown_of}
use Rattle.dev_board.specs.Stepping.{IsDid, StepIs}
use Rattle.dev_board.specs.declared.board_state.BoardState.{BoardState}
use Rattle.dev_board.specs.declared.stepped.Stepped.{Stepped}

-- a board that was not stopped may be stepped for caller k, where the slots are in these states
pub record MayStep (state : BoardState) (k : ℕ) (states : List SlotState) : Type 0 where
  pub kept : StateKept state
  pub caller : k < length state.going.callers
  pub agree : states ≡ slots_of state.going
  pub goes_on : state.stopped ≡ None

-- what the board shows follows as the answer to caller k tells, it keeps what every board keeps, the slots agree with it again, and what
-- the boot did leaves less of it
pub record HasStepped (old new : BoardState) (k : ℕ) (answer : Stepped) (states : List SlotState) : Type 0 where
  pub step : StepIs (shown_of old) k answer (shown_of new)
  pub kept : StateKept new
  pub agree : states ≡ slots_of new.going
  pub falls : IsDid answer → k ≡ 0 → BootFalls old new
