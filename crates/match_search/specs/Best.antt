-- The rows that may take a spot, by the truth values of their liveness.
use Rattle.std.specs.Prelude.{ℕ, Bool, false, ◌&&◌, nat_lt, List, length, map, Option, slice_get}
use Rattle.std.specs.List.{slice_index_or}
use Rattle.std.specs.Option.{option_map_or}
use Rattle.cf_types.specs.declared.machine.Machine.{Machine}
use Rattle.cf_types.specs.declared.tables.Place.{Place}
use Rattle.cf_types.specs.declared.tables.Tables.{Tables}
use Rattle.cf_types.specs.Locators.{locators_at, submatch}
use Rattle.run_rules.specs.declared.world.Dev.{Dev}
use Rattle.run_rules.specs.declared.world.ParentRef.{ParentRef}
use Rattle.run_rules.specs.declared.world.Setup.{Setup}
use Rattle.run_rules.specs.Suits.{worth}
use Rattle.run_rules.specs.Search.{first_best, is_live_row, fits, found_at, match_value}

-- of each row whether it is live
abbrev pub live_rows : Setup → List Dev → List Bool
live_rows s devices = map (is_live_row s devices) s.tables.rows

-- the row is marked live, fits, passes submatch and has a match value above 0
abbrev pub may_take : Tables → Machine → List Bool → ParentRef → Place → ℕ → ℕ → Bool
may_take t m live p place x r =
    option_map_or (λ row.
    slice_index_or live r false && fits t p place row
    && submatch (locators_at t.attrs place) row.locs (found_at m x)
    && nat_lt 0 (match_value m row.attach x))
    (slice_get t.rows r) false

-- of the rows that may take the spot the first of the greatest worth
unfoldable pub best_row : Tables → Machine → List Bool → ParentRef → Place → ℕ → Option ℕ
best_row t m live p place x = first_best (may_take t m live p place x) (λ r. worth t m r x) (length t.rows)
