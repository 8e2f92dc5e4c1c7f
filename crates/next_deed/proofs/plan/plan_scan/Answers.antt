use Rattle.std.proofs.Common.{arith}
use Rattle.next_deed.proofs.plan.plan_scan.Goals as goal

pub after_turn-requires : goal.after_turn-requires
after_turn-requires c = omega (arith, c.in-Some.ensures.spot, c.stands.ensures.bounded.few_spots)
