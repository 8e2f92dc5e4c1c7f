use Rattle.std.proofs.Common.{◌≡◌, ◌+◌, ◌-◌, ◌≤◌, length}
use Rattle.config_rules.specs.MachineText.{depth_of}
use Rattle.machine_model.proofs.spot.depth_below.Given as goal

abbrev pub invariant-loop : goal.invariant-loop
invariant-loop l = record {
  so_far : l.depth + depth_of (length l.spots - l.counter) l.spots l.above ≡ depth_of (length l.spots) l.spots l.fn.above + 1;
  count : l.depth ≤ l.counter + 1;
}
