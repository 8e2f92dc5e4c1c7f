use Rattle.std.proofs.Common.{◌∙◌, ap, true}
use Rattle.run_rules.specs.World.{World}
use Rattle.run_rules.specs.After.{after, arrived}
use Rattle.plain_effect.proofs.CallerLaws.{ok_more}
use Rattle.plain_effect.proofs.after.search.Goals as goal

pub returns : goal.returns
unfolding after
returns c = λ parent spot.
    ok_more c.arrive.result c.arrive.ensures.world (λ e. e ∙ ap (λ (w : World). arrived w c.args.caller c.args.got true) (c.advance.ensures.world c.args.rules.now))
