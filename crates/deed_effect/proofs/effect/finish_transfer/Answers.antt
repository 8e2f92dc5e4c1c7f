use Rattle.run_rules.specs.After.{after}
use Rattle.deed_effect.proofs.effect.finish_transfer.Goals as goal

pub returns-clause-world : goal.returns-clause-world
unfolding after
returns-clause-world c = λ s ticket. c.finish.ensures.world s
