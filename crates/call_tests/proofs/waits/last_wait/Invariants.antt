use Rattle.std.proofs.Common.{◌≡◌}
use Rattle.deed_effect.specs.Agreement.{slots_of}
use Rattle.call_tests.proofs.waits.last_wait.Given as goal

-- the slots agree with the board behind each turn
abbrev pub invariant-loop-caller : goal.invariant-loop-caller
invariant-loop-caller l = l.slots ≡ slots_of l.board.world
