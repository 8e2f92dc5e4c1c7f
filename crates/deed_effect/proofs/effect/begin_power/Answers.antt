use Rattle.run_rules.specs.After.{after}
use Rattle.deed_effect.proofs.effect.begin_power.Goals as goal

pub returns-clause-world : goal.returns-clause-world
unfolding after
returns-clause-world c = λ s. c.begin.ensures.world s
