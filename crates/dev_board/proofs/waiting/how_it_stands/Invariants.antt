use Rattle.dev_board.proofs.WhoGoes.{Seen}
use Rattle.dev_board.proofs.waiting.how_it_stands.Given as goal

abbrev pub invariant-loop-caller : goal.invariant-loop-caller
invariant-loop-caller l = Seen l.going l.caller l.waits
