use Rattle.std.specs.Prelude.{⊤}
use Rattle.dev_board.specs.Shown.{began}
use Rattle.workers_tests.proofs.looks.looked.Given as goal

abbrev pub ghosts-looks_of : goal.ghosts-looks_of
ghosts-looks_of g a = record { opening = began a.board; closings = a.parts.closings; dids = a.parts.dids; stops = a.parts.stops; table = a.parts.table; carried = λ ticket. ⊤ }
