use Rattle.app_every.proofs.Told.{every_tells_runs}
use Rattle.app_every.proofs.laws.every_tells_runs.Goals as goal

pub returns : goal.returns
returns c = every_tells_runs
