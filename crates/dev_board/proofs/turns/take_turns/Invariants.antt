use Rattle.std.proofs.Common.{◌≡◌, take}
use Rattle.deed_effect.specs.Agreement.{slots_of}
use Rattle.dev_board.specs.Playing.{Plays}
use Rattle.dev_board.proofs.turns.take_turns.Given as goal

-- the turns before this one were taken
abbrev pub invariant-loop-caller : goal.invariant-loop-caller
invariant-loop-caller l = record {
  plays : Plays l.initial.board (take l.caller-index l.order) l.board;
  agree : l.slots ≡ slots_of l.board.world;
}
