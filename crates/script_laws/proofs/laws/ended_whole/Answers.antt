use Rattle.script_laws.proofs.Runs.{whole_once_ended}
use Rattle.script_laws.proofs.laws.ended_whole.Goals as goal

pub returns : goal.returns
returns c = whole_once_ended
