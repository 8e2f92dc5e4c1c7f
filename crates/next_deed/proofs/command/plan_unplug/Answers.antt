use Rattle.std.proofs.Common.{◌≡◌, ◌∙◌}
use Rattle.std.proofs.lemmas.Result.{IfOk-weaker}
use Rattle.run_rules.specs.Next.{unplugging}
use Rattle.next_deed.proofs.ChoiceLaws.{stands_live, unplugs}
use Rattle.next_deed.proofs.command.plan_unplug.Goals as goal

pub if_free-requires : goal.if_free-requires
if_free-requires c = record { live = stands_live c.args.going.now.live c.args.spot c.in-Some.serial (rw c.tree.ensures at c.in-Some.ensures) }

pub returns-in-Some : goal.returns-in-Some
returns-in-Some c =
    let w = c.args.going.now in
    IfOk-weaker _ _ (λ does. unplugging w c.args.caller c.args.spot ≡ does)
    (λ does is. unplugs w c.args.caller c.args.spot c.in-Some.serial (rw c.tree.ensures at c.in-Some.ensures) ∙ is) c.if_free.ensures
