use Rattle.std.proofs.Common.{◌≡◌, length, drop}
use Rattle.std.specs.Prelude.{flat_map}
use Rattle.cf_types.specs.Gather.{with_all}
use Rattle.attr_graph.specs.Reach.{AreMarks, reach_at}
use Rattle.attr_graph.proofs.merge.add_reach.Given as goal

abbrev pub invariant-loop-name : goal.invariant-loop-name
invariant-loop-name l = record {
  size : length l.marks.items ≡ length l.initial.marks.items;
  marked : AreMarks l.list.items l.marks.items;
  gathered : with_all l.list.items (flat_map (reach_at l.attrs) (drop l.name-index l.names)) ≡ with_all l.initial.list.items (flat_map (reach_at l.attrs) l.names);
}
