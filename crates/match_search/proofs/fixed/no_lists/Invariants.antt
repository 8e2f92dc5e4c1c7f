use Rattle.std.proofs.Common.{◌≡◌, length}
use Rattle.match_search.proofs.fixed.no_lists.Given as goal

abbrev pub invariant-loop-list : goal.invariant-loop-list
invariant-loop-list l = length l.lists.items ≡ l._list
