use Rattle.std.proofs.Common.{◌∙◌, ap, refl, sym}
use Rattle.run_rules.specs.World.{Caller}
use Rattle.run_rules.specs.declared.world.Activity.TheVariants.{Power}
use Rattle.next_deed.proofs.ChooseLaws.{next_doing}
use Rattle.next_deed.proofs.next.next_in_power.Goals as goal

pub returns-in-Does : goal.returns-in-Does
returns-in-Does c =
    let k = c.args.caller in
    next_doing c.args.going.now k (Power c.in-Power.kind c.in-Power.target) (sym (ap (λ (c : Caller). c.doing) c.caller.ensures.state) ∙ c.in-Power.is) refl (c.waits_for_boot.ensures ∙ c.if-waits_for_boot.false)
    ∙ c.plan_power.ensures k ∙ c.in-Does.is
