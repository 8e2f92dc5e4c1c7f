use Rattle.std.proofs.Common.{◌≡◌, false, take, true}
use Rattle.std.specs.Prelude.{not}
use Rattle.std.specs.List.{list_all, slice_index_or}
use Rattle.attr_graph.proofs.merge.are_unmarked.Given as goal

abbrev pub invariant-loop-number : goal.invariant-loop-number
invariant-loop-number l = list_all (λ x. not (slice_index_or l.marks x false)) (take l.number-index l.numbers) ≡ true
