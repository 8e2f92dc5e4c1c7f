use Rattle.std.proofs.Common.{◌≡◌, None}
use Rattle.deed_effect.specs.Agreement.{slots_of}
use Rattle.dev_board.specs.Booting.{GoesOn}
use Rattle.dev_board.specs.Left.{boot_left}
use Rattle.dev_board.proofs.boot.run_boot.Given as goal

abbrev pub invariant-loop : goal.invariant-loop
invariant-loop g l = record {
  agree : g.S.Slots.states l.slots ≡ slots_of l.board.world;
  goes_on : l.board.stopped ≡ None;
  so_far : GoesOn l.initial.board l.board;
}

abbrev pub decreases-loop : goal.decreases-loop
decreases-loop g l = boot_left l.board.world
