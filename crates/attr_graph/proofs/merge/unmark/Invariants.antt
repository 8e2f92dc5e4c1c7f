use Rattle.std.proofs.Common.{◌≡◌, ℕ, ◌<◌, false, length, drop}
use Rattle.std.specs.List.{slice_index_or}
use Rattle.cf_types.specs.Gather.{is_in}
use Rattle.attr_graph.proofs.merge.unmark.Given as goal

abbrev pub invariant-loop-number : goal.invariant-loop-number
invariant-loop-number l = (k : ℕ) → k < length l.marks.items → is_in k (drop l.number-index l.list) ≡ false → slice_index_or l.marks.items k false ≡ false
