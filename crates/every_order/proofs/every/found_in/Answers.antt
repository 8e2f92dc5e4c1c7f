use Rattle.std.proofs.Common.{refl}
use Rattle.every_order.proofs.Noting.{found_in}
use Rattle.every_order.proofs.every.found_in.Goals as goal

pub returns : goal.returns
returns c =
    found_in c.args.seeker.now.rules.now c.args.met.now c.in_ok-noted.noted _ c.in_ok-noted.ensures refl refl c.in_ok-ends.ensures.same c.in_ok-ends.ensures.in_order c.in_ok-stuck.ensures.same c.in_ok-stuck.ensures.in_order
