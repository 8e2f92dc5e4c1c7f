use Rattle.std.proofs.Common.{◌≡◌, drop}
use Rattle.cf_types.specs.Gather.{with_all}
use Rattle.attr_graph.specs.Reach.{AreMarks}
use Rattle.attr_graph.proofs.merge.add_all.Given as goal

abbrev pub invariant-loop-number : goal.invariant-loop-number
invariant-loop-number l = record {
  marked : AreMarks l.list.items l.marks.items;
  gathered : with_all l.list.items (drop l.number-index l.numbers) ≡ with_all l.initial.list.items l.numbers;
}
