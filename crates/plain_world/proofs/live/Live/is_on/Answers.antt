use Rattle.std.proofs.Common.{◌∙◌, ◌==◌, ap}
use Rattle.std.specs.Prelude.{nat_lt}
use Rattle.run_rules.specs.declared.world.Dev.{Dev}
use Rattle.run_rules.specs.Search.{is_occupied}
use Rattle.plain_world.specs.LiveDevices.{LiveDevices}
use Rattle.plain_world.proofs.TallyLaws.{any_counted}
use Rattle.plain_world.proofs.live.Live.is_on.Goals as goal

pub returns : goal.returns
returns c =
    c.has.ensures ∙ ap (nat_lt 0) (c.self.invariant.1 c.args.spot) ∙ any_counted (λ (d : Dev). d.spot == c.args.spot) c.self.inside.devices.items
    ∙ ap (λ (t : LiveDevices). is_occupied t.devices c.args.spot) c.self.view_is
