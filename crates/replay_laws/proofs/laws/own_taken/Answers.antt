use Rattle.replay_laws.proofs.Taken.{own_taken}
use Rattle.replay_laws.proofs.laws.own_taken.Goals as goal

pub returns : goal.returns
returns c = own_taken
