use Rattle.replay_laws.proofs.Taken.{taken_in_both}
use Rattle.replay_laws.proofs.laws.taken_in_both.Goals as goal

pub returns : goal.returns
returns c = taken_in_both
