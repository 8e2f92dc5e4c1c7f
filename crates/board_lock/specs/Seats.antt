-- What contracts see of a seat, and of the parts of a run.
use Rattle.std.specs.Prelude.{◌≡◌, ℕ, zero, suc, List, [], ◌∷◌, ◌++◌, ◌+◌, Option, None}
use Rattle.atomic_table.specs.Seated.{TableId}
use Rattle.ref_ledger.specs.declared.state.SlotState.{SlotState}
use Rattle.ref_ledger.specs.declared.state.SlotState.TheVariants as state
use Rattle.lease_table.specs.declared.view.View.{View}
use Rattle.lease_table.specs.Leases.{caller_view}
use Rattle.lease_table.specs.Shown as lease
use Rattle.run_rules.specs.World.{World}
use Rattle.deed_effect.specs.Agreement.{slots_of}
use Rattle.dev_board.specs.Shown.{Shown}
use Rattle.dev_board.specs.Witness.{Witness}
use Rattle.dev_board.specs.declared.answer.Answer.TheVariants as answer
use Rattle.board_lock.specs.Boards.{spots_of, scripts_of}
use Rattle.board_lock.specs.Stuck.{GetsStuck}
use Rattle.board_lock.specs.declared.seat.DoneEnd.{DoneEnd}
use Rattle.board_lock.specs.declared.seat.DoneEnd.TheVariants as end

-- the caller, how often it ended, how many events it did, how often it stopped the board, the slot that its last look showed live if
-- no event of it came after that look, and what it knows of the slots
pub record SeatShown : Type 0 where
  pub caller : ℕ
  pub closings : ℕ
  pub dids : ℕ
  pub stops : ℕ
  pub looked : Option ℕ
  pub leases : View

pub record DoneShown : Type 0 where
  pub caller : ℕ
  pub closings : ℕ
  pub dids : ℕ
  pub stops : ℕ
  pub end : DoneEnd

-- the witness is of this opening world and caller
pub record Shows (w : World) (k : ℕ) (told : Witness) : Type 0 where
  pub began : told.began ≡ w
  pub caller : told.caller ≡ k

-- the caller has ended once, or has stopped the board as memory ran out or as nobody went on, or a witness shows that the board was stopped
abbrev pub EndFits : World → ℕ → ℕ → ℕ → DoneEnd → Type 0
EndFits w k closings stops end.Closed = closings ≡ 1
EndFits w k closings stops end.Memory = stops ≡ 1
EndFits w k closings stops end.Stuck = (stops ≡ 1) × GetsStuck w
EndFits w k closings stops (end.Stopped j told) = Shows w k told × (told.answer ≡ answer.Stopped j)

-- what a caller leaves at this end
abbrev pub left_by : SeatShown → DoneEnd → DoneShown
left_by s end = record { caller = s.caller; closings = s.closings; dids = s.dids; stops = s.stops; end = end }

-- the names of the ledgers and of the table, the number of seats, the states of the slots, and the callers' seats at the table
pub record Parts : Type 0 where
  pub closings : ℕ
  pub dids : ℕ
  pub stops : ℕ
  pub seats : ℕ
  pub table : TableId
  pub states : List SlotState
  pub callers : List lease.SeatShown

-- the seat of a caller at the beginning, with so many slots
abbrev pub fresh_seat : ℕ → ℕ → SeatShown
fresh_seat n k = record { caller = k; closings = 0; dids = 0; stops = 0; looked = None; leases = caller_view n k }

-- the seats of the first callers
abbrev pub seats_below : ℕ → ℕ → List SeatShown
seats_below n zero = []
seats_below n (suc k) = seats_below n k ++ fresh_seat n (suc k) ∷ []

-- the states where only the slots below i that are occupied were published
abbrev pub published_below : List SlotState → ℕ → List SlotState
published_below [] i = []
published_below (x ∷ xs) zero = state.Free ∷ published_below xs zero
published_below (x ∷ xs) (suc i) = x ∷ published_below xs i

-- the parts are of a run of this board: there is a seat for each script, the slots agree with the board, and the table is fresh
pub record PartsFit (p : Parts) (b : Shown) : Type 0 where
  pub seats : p.seats ≡ scripts_of b.world
  pub words : p.table.words ≡ spots_of b.world + 1
  pub states : p.states ≡ slots_of b.world
  pub callers : p.callers ≡ lease.first_seats p.table (spots_of b.world) (scripts_of b.world)
