use Rattle.history_laws.proofs.LawsHold.{always_lawful}
use Rattle.history_laws.proofs.laws.lawful.Goals as goal

pub returns : goal.returns
returns c = always_lawful
