use Rattle.std.proofs.Common.{◌∙◌, ap, arith}
use Rattle.run_rules.specs.declared.world.Activity.TheVariants as activity
use Rattle.run_rules.specs.World.{World}
use Rattle.run_rules.specs.After.{doing}
use Rattle.plain_effect.proofs.CallerLaws.{has_too}
use Rattle.plain_effect.proofs.effect.detach.Goals as goal

pub begin-requires : goal.begin-requires
begin-requires c = has_too _ _ _ 500 _ c.in_ok-condemn.ensures.callers (omega arith) c.requires.caller

pub returns : goal.returns
returns c = λ s. c.begin.ensures.world s ∙ ap (λ (w : World). doing w c.args.caller (activity.Frees c.args.of)) (c.in_ok-condemn.ensures.world s)
