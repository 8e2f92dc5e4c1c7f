-- The names that a board makes are formed.
use Rattle.std.proofs.Common.{◌<◌, ℕ, length}
use Rattle.std.specs.Prelude.{IsTrue}
use Rattle.cf_text.specs.Shapes.{is_written}
use Rattle.run_rules.specs.declared.world.Setup.{Setup}
use Rattle.run_rules.specs.World.{driver_of, driver_name}
use Rattle.run_rules.specs.Formed.{IsNamed}
use Rattle.run_rules.proofs.OwnNames.{there, all_at, row_driver}
use Rattle.run_world.specs.Input.{BoundedTables}

-- the driver of a row is one of the devices, whose names may be written
pub driver_written : (s : Setup) (r : ℕ) → BoundedTables s.tables → r < length s.tables.rows → IsTrue (is_written (driver_name s (driver_of s r)))
driver_written s r bounded lt =
    let device = there s.tables.devices (driver_of s r) (row_driver s r bounded.formed lt) in
    rw device.1 ((all_at IsNamed s.tables.devices (driver_of s r) device.0 bounded.formed.named device.1).written)
