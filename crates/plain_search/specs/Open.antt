-- Which rows are open to a parent, by how many devices have the driver and the unit of each row.
use Rattle.std.specs.Prelude.{ℕ, Bool, false, not, ◌&&◌, ◌||◌, nat_lt, List}
use Rattle.std.specs.List.{slice_index_or}
use Rattle.std.specs.Option.{option_map_or}
use Rattle.run_rules.specs.declared.world.Dev.{Dev}
use Rattle.run_rules.specs.declared.world.ParentRef.{ParentRef}
use Rattle.run_rules.specs.declared.world.Setup.{Setup}
use Rattle.run_rules.specs.Search.{is_live_row, names_parent}
use Rattle.run_rules.specs.World.{row_at}
use Rattle.plain_rows.specs.Taken.{AreTakers}
use Rattle.plain_search.specs.declared.seeker.Seeker.{Seeker}

-- the row is starred or no device has its driver and unit, and it names this parent or none
abbrev pub open_by : Setup → List ℕ → ParentRef → ℕ → Bool
open_by s taken p r = option_map_or (λ row. (row.star || not (nat_lt 0 (slice_index_or taken r 0))) && names_parent row.parent p) (row_at s r) false

-- the row is live, and names this parent or none
abbrev pub is_open_to : Setup → List Dev → ParentRef → ℕ → Bool
is_open_to s live p r = option_map_or (λ row. is_live_row s live row && names_parent row.parent p) (row_at s r) false

-- a seeker has counted these devices
abbrev pub Follows : Seeker → List Dev → Type 0
Follows k live = AreTakers k.rules.now live k.taken
