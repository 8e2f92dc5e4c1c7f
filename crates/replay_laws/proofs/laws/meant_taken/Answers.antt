use Rattle.replay_laws.proofs.Meant.{meant_taken}
use Rattle.replay_laws.proofs.laws.meant_taken.Goals as goal

pub returns : goal.returns
returns c = meant_taken
