use Rattle.every_order.proofs.Searching.{FollowsBelow}
use Rattle.every_order.proofs.search.follow_all.Given as goal

abbrev pub invariant-loop-caller : goal.invariant-loop-caller
invariant-loop-caller l = FollowsBelow l.seeker.rules.now l.fn.known l.at l.caller l.known
