-- The rows at a place, and of these the rows with a first value.
use Rattle.std.specs.Prelude.{◌≡◌, ℕ, ℤ, Bool, true, false, ◌&&◌, List, [], ◌∷◌, filter, length, slice_get, Option, Some, None, Vec}
use Rattle.std.specs.Global.{Global}
use Rattle.std.specs.HashMap.{HashMap, get}
use Rattle.std.specs.Option.{option_map_or}
use Rattle.std.specs.Ordering.{int_eq}
use Rattle.cf_types.specs.declared.tables.Row.{Row}
use Rattle.cf_types.specs.Numbers.{below}
use Rattle.run_rules.specs.World.{same_place}
use Rattle.match_search.specs.contracts.placed.PlaceKeyPartialEq.TheImpl as block
use Rattle.match_search.specs.declared.placed.Looked.{Looked}
use Rattle.match_search.specs.declared.placed.Looked.TheVariants.{Listed, Placed}
use Rattle.match_search.specs.declared.placed.PlaceKey.{PlaceKey}
use Rattle.match_search.specs.declared.placed.PlacedRows.{PlacedRows}
use Rattle.match_search.specs.Lists.{AreListed}

-- the first value is the one that is asked for, if one is
abbrev pub has_first : Option ℤ → List ℤ → Bool
has_first None values = true
has_first (Some v) [] = false
has_first (Some v) (w ∷ values) = int_eq w v

-- the row hangs at the place, and has the first value where one is meant
abbrev pub is_under : PlaceKey → Row → Bool
is_under key row = same_place row.place key.place && has_first key.first row.locs

-- of the first n rows those under a key, in their order
abbrev pub rows_under : List Row → PlaceKey → ℕ → List ℕ
rows_under rows key n = filter (λ r. option_map_or (is_under key) (slice_get rows r) false) (below n)

-- the list of a key
abbrev pub rows_at : {K S : Type 0} → (K → K → Bool) → HashMap K (Vec ℕ Global) S → K → List ℕ
rows_at eq lists key = option_map_or (λ list. list.items) (get eq lists key) []

abbrev pub rows_of : {S : Type 0} → PlaceKey → HashMap PlaceKey (Vec ℕ Global) S → List ℕ
rows_of key lists = rows_at block.ghosts.eq lists key

-- each key has the rows that are under it
abbrev pub ArePlaced : List Row → PlacedRows → Type 0
ArePlaced rows placed = (key : PlaceKey) → rows_of key placed.lists ≡ rows_under rows key (length rows)

-- each row is in the list of its place, or each key has the rows that are under it
abbrev pub AreLooked : List Row → Looked → Type 0
AreLooked rows (Listed lists) = AreListed rows lists
AreLooked rows (Placed placed) = ArePlaced rows placed
