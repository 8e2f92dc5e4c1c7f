use Rattle.std.proofs.Common.{◌<◌, ℕ}
use Rattle.match_search.specs.Lists.{IsListed}
use Rattle.match_search.proofs.lists.PlaceLists.make.Given as goal

abbrev pub invariant-loop-number : goal.invariant-loop-number
invariant-loop-number l = (r : ℕ) → r < l.number → IsListed l.rows l.lists r
