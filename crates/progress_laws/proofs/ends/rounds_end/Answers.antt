use Rattle.progress_laws.proofs.Rounds.{rounds_end}
use Rattle.progress_laws.proofs.ends.rounds_end.Goals as goal

pub returns : goal.returns
returns c = rounds_end
