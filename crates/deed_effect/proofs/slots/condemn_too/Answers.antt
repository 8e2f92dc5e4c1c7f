use Rattle.deed_effect.specs.Agreement.{slots_of}
use Rattle.deed_effect.proofs.slots.condemn_too.Goals as goal

pub returns-in-None-clause-agree : goal.returns-in-None-clause-agree
unfolding slots_of
returns-in-None-clause-agree g c = rw c.in-None.is at c.requires
