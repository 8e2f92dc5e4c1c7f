use Rattle.std.proofs.Common.{◌≡◌, ◌+◌, ◌≤◌, length, drop}
use Rattle.std.specs.Prelude.{flat_map, if◌then◌else◌}
use Rattle.attr_graph.specs.declared.gather.TheConstants.{MAX_INTERFACES}
use Rattle.attr_graph.specs.Reach.{reach_at}
use Rattle.attr_graph.proofs.gather.list_count.Given as goal

abbrev pub invariant-loop-name : goal.invariant-loop-name
invariant-loop-name l = record {
  few : l.count ≤ MAX_INTERFACES;
  counted : l.count + length (flat_map (reach_at l.attrs) (drop l.name-index l.names)) ≡ (if l.own then 1 else 0) + length (flat_map (reach_at l.attrs) l.names);
}
