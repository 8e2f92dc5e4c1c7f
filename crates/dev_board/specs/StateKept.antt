-- What every board keeps of its parts.
use Rattle.std.specs.Prelude.{◌≤◌, ◌<◌, ◌+◌, length}
use Rattle.std.specs.List.{AllByRecursion}
use Rattle.run_rules.specs.World.{opening}
use Rattle.run_rules.specs.Lines.{IsFormed}
use Rattle.run_rules.specs.Run.{Run}
use Rattle.run_sound.specs.Left.{boot_left}
use Rattle.dev_board.specs.Shown.{Shown}
use Rattle.dev_board.specs.declared.board_state.BoardState.{BoardState}

abbrev pub shown_of : BoardState → Shown
shown_of r = record { world = r.going; events = r.events.items; stops = r.stops; stopped = r.stopped }

-- less of the boot is left
abbrev pub BootFalls : BoardState → BoardState → Type 0
BootFalls old new = boot_left new.going < boot_left old.going

-- the history leads from the opening world to this one, and its events are formed; the next serial is at most one more than the events
pub record StateKept (r : BoardState) : Type 0 where
  pub run : Run (opening r.going.setup) r.events.items r.going
  pub formed : AllByRecursion IsFormed r.events.items
  pub next_high : r.going.next ≤ length r.events.items + 1
