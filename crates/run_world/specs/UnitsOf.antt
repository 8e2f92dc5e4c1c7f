-- The units that are taken, and those of the live devices.
use Rattle.std.specs.Prelude.{◌≡◌, ℕ, List, length}
use Rattle.unit_alloc.specs.Taken as alloc
use Rattle.run_rules.specs.declared.world.Dev.{Dev}
use Rattle.run_rules.specs.declared.world.Setup.{Setup}
use Rattle.run_rules.specs.Search as rule

-- of each device that is declared exactly the units of live devices are taken
pub record AreUnitsOf (s : Setup) (live : List Dev) (units : List (List ℕ)) : Type 0 where
  pub devices : length units ≡ length s.tables.devices
  pub taken : (d n : ℕ) → alloc.is_taken units d n ≡ rule.is_taken s live d n
