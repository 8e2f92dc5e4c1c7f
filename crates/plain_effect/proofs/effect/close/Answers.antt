use Rattle.std.proofs.Common.{◌∙◌, ap}
use Rattle.run_rules.specs.World.{World}
use Rattle.run_rules.specs.After.{after, over}
use Rattle.plain_effect.proofs.effect.close.Goals as goal

pub returns : goal.returns
unfolding after
returns c = λ s. c.finish.ensures s ∙ ap (λ (w : World). over w c.args.caller) (c.give_back.ensures.world s)
