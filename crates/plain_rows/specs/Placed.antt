-- The rows at a place.
use Rattle.std.specs.Prelude.{◌≡◌, ℕ, Bool, false, List, filter, length, slice_get}
use Rattle.std.specs.Option.{option_map_or}
use Rattle.cf_types.specs.declared.tables.Place.{Place}
use Rattle.cf_types.specs.declared.tables.Place.TheVariants.{Root, At}
use Rattle.cf_types.specs.declared.tables.Row.{Row}
use Rattle.cf_types.specs.Numbers.{below}
use Rattle.run_rules.specs.World.{same_place}
use Rattle.plain_rows.specs.Lists.{list_at}
use Rattle.plain_rows.specs.declared.placed.PlacedRows.{PlacedRows}

-- the list of a place
abbrev pub rows_in : PlacedRows → Place → List ℕ
rows_in placed Root = placed.root.items
rows_in placed (At a) = list_at placed.attrs.items a

-- the row hangs at the place
abbrev pub is_at : List Row → Place → ℕ → Bool
is_at rows place r = option_map_or (λ row. same_place row.place place) (slice_get rows r) false

-- each place has the rows that hang there, in their order
abbrev pub ArePlaced : List Row → PlacedRows → Type 0
ArePlaced rows placed = (place : Place) → rows_in placed place ≡ filter (is_at rows place) (below (length rows))
