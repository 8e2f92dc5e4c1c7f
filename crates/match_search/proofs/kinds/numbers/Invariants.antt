use Rattle.std.proofs.Common.{◌≡◌, ◌<◌, ℕ, length, slice_index_or}
use Rattle.match_search.proofs.kinds.numbers.Given as goal

abbrev pub invariant-loop-number : goal.invariant-loop-number
invariant-loop-number l = (length l.list.items ≡ l.number) × ((r : ℕ) → r < l.number → slice_index_or l.list.items r 0 ≡ r)
