use Rattle.std.specs.Prelude.{⊤}
use Rattle.dev_board.specs.Shown.{began}
use Rattle.workers_tests.proofs.stale.posted.Given as goal

abbrev pub ghosts-posted_of : goal.ghosts-posted_of
ghosts-posted_of g a = record { opening = began a.board; closings = a.parts.closings; dids = a.parts.dids; stops = a.parts.stops; table = a.parts.table; carried = λ ticket. ⊤ }
