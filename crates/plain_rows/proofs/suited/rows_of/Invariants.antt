use Rattle.std.proofs.Common.{map, take}
use Rattle.plain_rows.specs.Suited.{FindsAlike}
use Rattle.plain_rows.proofs.suited.rows_of.Given as goal

abbrev pub invariant-loop-place : goal.invariant-loop-place
invariant-loop-place l = FindsAlike l.tables (map (λ c. c.row) (take l.place l.list.items)) l.rows.items
