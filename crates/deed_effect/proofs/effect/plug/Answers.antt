use Rattle.run_rules.specs.After.{after}
use Rattle.deed_effect.proofs.effect.plug.Goals as goal

pub returns-clause-world : goal.returns-clause-world
unfolding after
returns-clause-world c = λ s. (rw c.remove.ensures at c.finish.ensures.world s)
