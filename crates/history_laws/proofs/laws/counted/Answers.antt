use Rattle.history_laws.proofs.Stands.{always_counted}
use Rattle.history_laws.proofs.laws.counted.Goals as goal

pub returns : goal.returns
returns c = always_counted
