use Rattle.std.proofs.Common.{◌∙◌, ap}
use Rattle.run_rules.specs.World.{World, has_ended}
use Rattle.run_world.proofs.going.Going.has_ended.Goals as goal

pub returns : goal.returns
returns c = c.is_ended.ensures c.held.inside.site.setup ∙ ap (λ (w : World). has_ended w c.args.caller) (c.held.view_is ∙ c.self.view_is)
