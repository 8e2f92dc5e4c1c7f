use Rattle.replay_laws.proofs.Older.{older_taken}
use Rattle.replay_laws.proofs.laws.older_taken.Goals as goal

pub returns : goal.returns
returns c = older_taken
