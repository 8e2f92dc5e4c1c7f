use Rattle.std.proofs.Common.{◌≡◌, map, take, true}
use Rattle.match_search.proofs.live.LiveRows.make.Given as goal

abbrev pub invariant-loop-row : goal.invariant-loop-row
invariant-loop-row l = l.marks.items ≡ map (λ r. true) (take l._row-index l.tables.rows)
