-- Tables as a compiler gives them, as far as names of devices go.
use Rattle.std.specs.Prelude.{◌≢◌, ◌<◌, not, IsTrue, length}
use Rattle.std.specs.List.{AllByRecursion}
use Rattle.cf_text.specs.Shapes.{is_written, ends_with_digit}
use Rattle.cf_types.specs.declared.tables.Device.{Device}
use Rattle.cf_types.specs.declared.tables.Tables.{Tables}
use Rattle.run_rules.specs.Sound.{EachLater}

-- a device has a name that may be written and that does not end in a digit, so that its units can be told apart
pub record IsNamed (d : Device) : Type 0 where
  pub written : IsTrue (is_written d.name)
  pub plain_end : IsTrue (not (ends_with_digit d.name))

-- the names of the devices differ, and each row is of one of them
pub record HasFormedDevices (t : Tables) : Type 0 where
  pub named : AllByRecursion IsNamed t.devices
  pub apart : EachLater (λ d e. d.name ≢ e.name) t.devices
  pub rows : AllByRecursion (λ r. r.device < length t.devices) t.rows
