-- How many live devices have the driver and the unit of each row.
use Rattle.std.specs.Prelude.{◌≡◌, ℕ, Bool, false, ◌&&◌, ◌==◌, if◌then◌else◌, List, slice_get}
use Rattle.std.specs.List.{count_by, slice_index_or}
use Rattle.std.specs.Option.{option_map_or}
use Rattle.cf_types.specs.declared.tables.Row.{Row}
use Rattle.run_rules.specs.declared.world.Dev.{Dev}
use Rattle.run_rules.specs.declared.world.Setup.{Setup}
use Rattle.run_rules.specs.World.{driver_of}

-- whether a row is of this driver and unit
abbrev pub is_of : List Row → ℕ → ℕ → ℕ → Bool
is_of rows driver unit r = option_map_or (λ row. driver == row.device && unit == row.unit) (slice_get rows r) false

-- how often a row is in a list, where it has this unit
abbrev pub has_unit : List Row → ℕ → ℕ → Bool
has_unit rows unit r = option_map_or (λ row. unit == row.unit) (slice_get rows r) false

abbrev pub times : List Row → ℕ → List ℕ → ℕ → ℕ
times rows unit list r = count_by (λ q. q == r && has_unit rows unit q) list

-- whether a row is of the driver of another one and of this unit
abbrev pub is_row_of : Setup → ℕ → ℕ → ℕ → Bool
is_row_of s row unit r = is_of s.tables.rows (driver_of s row) unit r

-- how many of the devices have the driver and the unit of a row
abbrev pub takers : Setup → List Dev → ℕ → ℕ
takers s live r = count_by (λ d. is_row_of s d.row d.unit r) live

-- these are the numbers of all rows
abbrev pub AreTakers : Setup → List Dev → List ℕ → Type 0
AreTakers s live counts = (r : ℕ) → slice_index_or counts r 0 ≡ takers s live r

-- one more for each row of this driver and unit, or one less
abbrev pub one_if : Bool → ℕ
one_if b = if b then 1 else 0
