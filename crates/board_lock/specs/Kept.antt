-- What a seat keeps, and what is kept behind the lock.
use Rattle.std.specs.Prelude.{◌≡◌, ◌≤◌, ◌+◌, ◌-◌, ◌==◌, ℕ, Bool, min}
use Rattle.atomic_table.specs.Seated.{TableId}
use Rattle.lease_table.specs.Shown as lease
use Rattle.run_rules.specs.Counts.{ends_of, dids_of}
use Rattle.run_rules.specs.World.{World}
use Rattle.deed_effect.specs.Agreement.{slots_of}
use Rattle.dev_board.specs.Shown.{Shown, began}
use Rattle.board_lock.specs.declared.seat.DoneEnd.{DoneEnd}
use Rattle.board_lock.specs.Boards.{spots_of, scripts_of}
use Rattle.board_lock.specs.Seats.{EndFits}
use Rattle.board_lock.specs.Tallies.{Tally, Totals}

-- the caller is one of n; it has a share of one seat and at most one right to stop, which is left exactly where it did not stop
-- the board; `ends` says whether it ended never, once or more often; its leases are on the table, in its own name
pub record SeatKept (n : ℕ) (z : TableId) (k ends : ℕ) (halted : Bool) (t : Tally) (l : lease.SeatShown) : Type 0 where
  pub first : 1 ≤ k
  pub last : k ≤ n
  pub part : t.parts ≡ 1
  pub right : t.rights ≤ 1
  pub stopped : halted ≡ (t.rights == 0)
  pub counted : ends ≡ min t.closings 2
  pub table : l.table ≡ z
  pub caller : l.caller ≡ k

-- a caller that is done has a share of one seat and at most one right to stop; its end is what its count of ends, its right or its
-- witness says; its leases are on the table
pub record DoneKept (w : World) (z : TableId) (k : ℕ) (end : DoneEnd) (t : Tally) (l : lease.SeatShown) : Type 0 where
  pub part : t.parts ≡ 1
  pub right : t.rights ≤ 1
  pub fits : EndFits w k t.closings (1 - t.rights) end
  pub table : l.table ≡ z

-- the board began with this world; the books have the ends and the events of its scripts, and the rights to stop that were not
-- used; the table has a word for each spot and one more, and its slots agree with the live devices
pub record LockedKept (w : World) (z : TableId) (b : Shown) (t : Totals) (k : lease.KeeperShown) : Type 0 where
  pub opening : began b ≡ w
  pub closings : t.closings ≡ ends_of b.events
  pub dids : t.dids ≡ dids_of b.events
  pub rights : b.stops + t.rights ≡ scripts_of w
  pub words : spots_of w + 1 ≡ z.words
  pub states : lease.states_in k.view ≡ slots_of b.world
