use Rattle.std.specs.Prelude.{⊤}
use Rattle.dev_board.specs.Shown.{began}
use Rattle.board_lock.proofs.locked.tests.denials.Given as goal

abbrev pub ghosts-denied_of : goal.ghosts-denied_of
ghosts-denied_of g a = record { opening = began a.board; closings = a.parts.closings; dids = a.parts.dids; stops = a.parts.stops; table = a.parts.table; carried = λ ticket. ⊤ }
