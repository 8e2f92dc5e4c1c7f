-- The rows of each driver.
use Rattle.std.specs.Prelude.{◌≡◌, ℕ, Bool, false, ◌==◌, List, [], filter, length, slice_get}
use Rattle.std.specs.List.{slice_index_or}
use Rattle.std.specs.Option.{option_map_or}
use Rattle.cf_types.specs.declared.tables.Row.{Row}
use Rattle.cf_types.specs.Numbers.{below}

-- the row is of this driver
abbrev pub is_driven : List Row → ℕ → ℕ → Bool
is_driven rows driver r = option_map_or (λ row. row.device == driver) (slice_get rows r) false

-- the rows of a driver, in their order
abbrev pub rows_driven : List Row → ℕ → List ℕ
rows_driven rows driver = filter (is_driven rows driver) (below (length rows))

-- each driver has its rows
abbrev pub AreByDriver : List Row → List (List ℕ) → Type 0
AreByDriver rows lists = (driver : ℕ) → slice_index_or lists driver [] ≡ rows_driven rows driver
