use Rattle.std.proofs.Common.{◌≡◌, ◌≤◌}
use Rattle.plain_world.specs.Plain.{world_of}
use Rattle.every_order.proofs.Counting.{goers_below}
use Rattle.every_order.proofs.kind.goers_in.Given as goal

abbrev pub invariant-loop-caller : goal.invariant-loop-caller
invariant-loop-caller l = record {
  counted : l.count ≡ goers_below (world_of l.seeker.rules.now l.plain) l.caller;
  few : l.count ≤ l.caller;
}
