use Rattle.std.proofs.Common.{◌≡◌, map, take}
use Rattle.plain_rows.proofs.taken.Taken.make.Given as goal

abbrev pub invariant-loop-row : goal.invariant-loop-row
invariant-loop-row l = l.counts.items ≡ map (λ row. 0) (take l._row-index l.rows)
