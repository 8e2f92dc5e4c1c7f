use Rattle.history_laws.specs.Always.{FreesLiving}
use Rattle.history_laws.proofs.Always.{of_event}
use Rattle.history_laws.proofs.LawsHold.{frees_living}
use Rattle.history_laws.proofs.laws.freed_living.Goals as goal

pub returns : goal.returns
returns c = of_event FreesLiving frees_living
