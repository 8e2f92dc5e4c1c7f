use Rattle.history_laws.proofs.Always.{always_reliable}
use Rattle.history_laws.proofs.laws.reliable.Goals as goal

pub returns : goal.returns
returns c = always_reliable
