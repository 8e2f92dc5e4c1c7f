use Rattle.std.proofs.Common.{◌<◌, ◌==◌, length, sym}
use Rattle.run_world.proofs.GoingLaws.{found_has}
use Rattle.run_world.proofs.going.Going.device.Goals as goal

pub returns-clause-row : goal.returns-clause-row
returns-clause-row c =
    let w = c.args.self.now in
    found_has (λ d. d.row < length w.setup.tables.rows) (λ d. d.serial == c.args.serial) w.live c.get.result (rw (← c.self.view_is) c.self.invariant.kept.ranges.devices.rows) (rw (← c.self.view_is, ← c.held.view_is) (sym c.get.ensures))
