use Rattle.replay_laws.proofs.Taken.{history_taken}
use Rattle.replay_laws.proofs.laws.history_taken.Goals as goal

pub returns : goal.returns
returns c = history_taken
