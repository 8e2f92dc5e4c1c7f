use Rattle.std.proofs.Common.{◌≡◌, filter}
use Rattle.cf_types.specs.declared.tables.Place.{Place}
use Rattle.cf_types.specs.Numbers.{below}
use Rattle.plain_rows.specs.Placed.{is_at, rows_in}
use Rattle.plain_rows.proofs.placed.PlacedRows.make.Given as goal

abbrev pub invariant-loop-number : goal.invariant-loop-number
invariant-loop-number l = (place : Place) → rows_in l.placed place ≡ filter (is_at l.rows place) (below l.number)
