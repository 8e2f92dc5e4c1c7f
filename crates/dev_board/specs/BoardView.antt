-- What a board shows, and what it keeps.
use Rattle.dev_board.specs.declared.board.Board.TheInside.{Inside}
use Rattle.dev_board.specs.Shown.{Shown}
use Rattle.dev_board.specs.StateKept.{shown_of, StateKept}

abbrev pub board_view : Inside → Shown
board_view b = shown_of b.state

abbrev pub board_kept : Inside → Type 0
board_kept b = StateKept b.state
