use Rattle.std.proofs.Common.{◌≡◌, ◌∙◌, List, ap}
use Rattle.run_rules.specs.After.{with_condemner}
use Rattle.run_rules.specs.declared.world.Dev.{Dev}
use Rattle.plain_world.specs.LiveDevices.{LiveDevices}
use Rattle.plain_world.proofs.Kept.{condemned_serial, marked}
use Rattle.plain_world.proofs.Stands.{condemned_spot, counted_as}
use Rattle.plain_world.proofs.live.Live.condemn.Goals as goal

pub invariant_of-self : goal.invariant_of-self
invariant_of-self c =
    let old : List Dev = c.self.inside.devices.items in
    let seen : old ≡ c.args.self.now.devices = ap (λ (t : LiveDevices). t.devices) c.self.view_is in
    rw (c.in_ok-devices.ensures, c.devices.ensures, ← seen) (
      marked (with_condemner old c.args.caller c.args.above) (condemned_serial old c.args.caller c.args.above) old c.self.inside.next c.self.invariant.0,
      λ x. c.self.invariant.1 x ∙ counted_as (with_condemner old c.args.caller c.args.above) (condemned_spot old c.args.caller c.args.above) old x,
    )
