use Rattle.std.specs.Prelude.{⊤}
use Rattle.dev_board.specs.Shown.{began}
use Rattle.workers_tests.proofs.stops.stopped.Given as goal

abbrev pub ghosts-stopped_of : goal.ghosts-stopped_of
ghosts-stopped_of g a = record { opening = began a.board; closings = a.parts.closings; dids = a.parts.dids; stops = a.parts.stops; table = a.parts.table; carried = λ ticket. ⊤ }
