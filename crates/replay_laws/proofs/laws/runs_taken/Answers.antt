use Rattle.replay_laws.proofs.Taken.{runs_taken}
use Rattle.replay_laws.proofs.laws.runs_taken.Goals as goal

pub returns : goal.returns
returns c = runs_taken
