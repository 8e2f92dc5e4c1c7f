use Rattle.run_rules.specs.After.{after}
use Rattle.deed_effect.proofs.effect.open.Goals as goal

pub returns-clause-ok : goal.returns-clause-ok
unfolding after
returns-clause-ok c = λ s. (rw c.in_ok-grant.ensures.ok at c.finish.ensures.world s)
