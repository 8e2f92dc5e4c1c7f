-- The rows that may take a spot now.
use Rattle.std.specs.Prelude.{ℕ, Bool, false, ◌&&◌, List, length, map}
use Rattle.std.specs.Option.{option_map_or}
use Rattle.cf_types.specs.Numbers.{below}
use Rattle.match_search.specs.Index as index
use Rattle.run_rules.specs.declared.world.ParentRef.{ParentRef}
use Rattle.run_rules.specs.Search.{is_live_row}
use Rattle.run_rules.specs.World.{row_at}
use Rattle.live_rules.specs.Live.{LiveWorld, LiveSite, is_on}
use Rattle.live_tables.specs.Running.{Running}

-- the row is on, and its unit is free or any
abbrev pub is_open : LiveSite → LiveWorld → ℕ → Bool
is_open t w r = is_on t w.on r && option_map_or (is_live_row t.setup w.live) (row_at t.setup r) false

-- of each row whether it is
unfoldable pub open_rows : LiveSite → LiveWorld → List Bool
open_rows t w = map (is_open t w) (below (length t.setup.tables.rows))

abbrev pub is_open_to : Running → ParentRef → ℕ → Bool
is_open_to r p q = index.is_open_to r.site.setup.tables (open_rows r.site r.world) p q
