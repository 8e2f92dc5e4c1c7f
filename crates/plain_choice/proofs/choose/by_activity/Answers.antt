use Rattle.std.proofs.Common.{sym, ap, ◌∙◌}
use Rattle.run_rules.specs.Next as next
use Rattle.plain_world.specs.Plain.{world_of}
use Rattle.plain_choice.proofs.choose.by_activity.Goals as goal

pub returns-in-Power : goal.returns-in-Power
returns-in-Power c =
    ap (next.by_activity (world_of c.args.seeker.now.rules.now c.args.plain.now) c.args.caller) (sym c.in-Power.ensures) ∙ c.powering.ensures c.args.caller
