use Rattle.std.proofs.Common.{◌∙◌, ap}
use Rattle.run_rules.specs.Next.{by_activity}
use Rattle.next_deed.proofs.next.plan_activity.Goals as goal

pub returns-in-Power : goal.returns-in-Power
returns-in-Power c = ap (by_activity c.args.going.now c.args.caller) c.in-Power.is ∙ c.plan_power.ensures c.args.caller
