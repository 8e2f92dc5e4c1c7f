use Rattle.std.proofs.Common.{◌≡◌, ◌≤◌, ◌+◌, ◌-◌, length}
use Rattle.plain_world.specs.Plain.{world_of}
use Rattle.every_order.proofs.Whole.{IsSearch}
use Rattle.every_order.proofs.search.worlds_from.Given as goal

abbrev pub invariant-worlds : goal.invariant-worlds
invariant-worlds l = record {
  rules : l.seeker.rules.now ≡ l.fn.seeker.rules.now;
  low : l.at ≤ length l.known.met.items;
  search : IsSearch l.fn.seeker.rules.now (world_of l.fn.seeker.rules.now l.fn.start) l.known l.at;
}

abbrev pub decreases-worlds : goal.decreases-worlds
decreases-worlds l = l.most + 1 - l.at
