use Rattle.std.proofs.Common.{◌∙◌}
use Rattle.run_rules.specs.After.{with_sleep}
use Rattle.plain_world.proofs.Kept.{marked, rested_serial}
use Rattle.plain_world.proofs.Stands.{counted_as, rested_spot}
use Rattle.plain_world.proofs.live.Live.rest.Goals as goal

pub invariant_of-self : goal.invariant_of-self
invariant_of-self c =
    let rested = with_sleep c.args.serial c.args.asleep in
    let old = c.self.inside.devices.items in
    rw c.rest_at.ensures (
      marked rested (rested_serial c.args.serial c.args.asleep) old c.self.inside.next c.self.invariant.0,
      λ x. c.self.invariant.1 x ∙ counted_as rested (rested_spot c.args.serial c.args.asleep) old x,
    )
