use Rattle.dev_board.specs.Shown.{began}
use Rattle.drv_workers.proofs.run.run_scripts.Given as goal

abbrev pub ghosts-run_named : goal.ghosts-run_named
ghosts-run_named g a = record { opening = began a.board; closings = a.parts.closings; dids = a.parts.dids; stops = a.parts.stops; table = a.parts.table; carried = g.M.Medium.carried }
