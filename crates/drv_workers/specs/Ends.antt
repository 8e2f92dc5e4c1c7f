-- How a worker ends.
use Rattle.std.specs.Prelude.{◌≡◌}
use Rattle.run_rules.specs.World.{World}
use Rattle.board_lock.specs.Seats.{SeatShown, DoneShown, EndFits}
use Rattle.board_lock.specs.declared.seat.DoneEnd.{DoneEnd}
use Rattle.board_lock.specs.declared.seat.DoneEnd.TheVariants as end

-- the worker stopped the board exactly where memory ran out or nobody went on
abbrev pub StopsAt : DoneEnd → SeatShown → DoneShown → Type 0
StopsAt end.Closed s d = d.stops ≡ s.stops
StopsAt end.Memory s d = d.stops ≡ 1
StopsAt end.Stuck s d = d.stops ≡ 1
StopsAt (end.Stopped j told) s d = d.stops ≡ s.stops

-- the end is what the count of ends, the stop or the witness says
pub record WorkEnds (w : World) (s : SeatShown) (d : DoneShown) : Type 0 where
  pub caller : d.caller ≡ s.caller
  pub fits : EndFits w s.caller d.closings d.stops d.end
  pub stops : StopsAt d.end s d
