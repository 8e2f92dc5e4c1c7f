use Rattle.std.proofs.Common.{◌≡◌, ◌++◌, take}
use Rattle.match_search.specs.Sought.{candidates_in}
use Rattle.match_search.proofs.index.add_candidates.Given as goal

abbrev pub invariant-loop-row : goal.invariant-loop-row
invariant-loop-row l = l.list.items ≡ l.initial.list.items ++ candidates_in l.sought (take l.row-index l.rows)
