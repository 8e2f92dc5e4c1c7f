use Rattle.std.proofs.Common.{◌<◌, length}
use Rattle.std.specs.Prelude.{bytes_eq}
use Rattle.run_rules.specs.World.{name_of}
use Rattle.run_world.proofs.GoingLaws.{found_has}
use Rattle.run_world.proofs.going.Going.named.Goals as goal

pub returns-clause-row : goal.returns-clause-row
returns-clause-row c =
    let w = c.args.self.now in
    found_has (λ d. d.row < length w.setup.tables.rows) (λ d. bytes_eq (name_of w.setup d) c.args.name.now) w.live c.device_named.result (rw (← c.self.view_is) c.self.invariant.kept.ranges.devices.rows)
    (rw (← c.self.view_is, ← c.held.view_is) c.device_named.ensures.found)
