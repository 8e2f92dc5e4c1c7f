use Rattle.std.proofs.Common.{◌≡◌}
use Rattle.match_search.specs.declared.placed.PlaceKey.{PlaceKey}
use Rattle.match_search.specs.Placed.{rows_of, rows_under}
use Rattle.match_search.proofs.placed.PlacedRows.make.Given as goal

abbrev pub invariant-loop-number : goal.invariant-loop-number
invariant-loop-number l = (key : PlaceKey) → rows_of key l.lists ≡ rows_under l.rows key l.number
