-- What the events of live devices are made of.
use Rattle.std.specs.Prelude.{◌<◌, ℕ, IsTrue, List, [], length}
use Rattle.std.specs.List.{AllByRecursion}
use Rattle.std.specs.Option.{option_map_or}
use Rattle.run_rules.specs.declared.world.Setup.{Setup}
use Rattle.run_rules.specs.declared.world.Dev.{Dev}
use Rattle.run_rules.specs.World.{device_at, is_live, name_of}

-- each live device came by a row of the tables
abbrev pub HaveRows : Setup → List Dev → Type 0
HaveRows s live = AllByRecursion (λ d. d.row < length s.tables.rows) live

abbrev pub IsLive : List Dev → ℕ → Type 0
IsLive live x = IsTrue (is_live live x)

-- the name of a live device
abbrev pub name_live : Setup → List Dev → ℕ → List ℕ
name_live s live x = option_map_or (name_of s) (device_at live x) []
