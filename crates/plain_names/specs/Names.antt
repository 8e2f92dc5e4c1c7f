-- The names of live devices.
use Rattle.std.specs.Prelude.{ℕ, List, []}
use Rattle.std.specs.Option.{option_map_or}
use Rattle.run_rules.specs.declared.world.Dev.{Dev}
use Rattle.run_rules.specs.declared.world.Setup.{Setup}
use Rattle.run_rules.specs.World.{device_at, name_of}

-- the name of a live device
abbrev pub name_live : Setup → List Dev → ℕ → List ℕ
name_live s live x = option_map_or (name_of s) (device_at live x) []
