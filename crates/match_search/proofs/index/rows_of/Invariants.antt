use Rattle.std.proofs.Common.{◌≡◌, map, take}
use Rattle.match_search.proofs.index.rows_of.Given as goal

abbrev pub invariant-loop-candidate : goal.invariant-loop-candidate
invariant-loop-candidate l = l.rows.items ≡ map (λ c. c.row) (take l.candidate-index l.list.items)
