use Rattle.std.proofs.Common.{◌∙◌, ap, sym}
use Rattle.run_rules.specs.declared.deed.Choice.TheVariants.{Does}
use Rattle.next_deed.proofs.ChooseLaws.{on_frame}
use Rattle.next_deed.proofs.next.next_on_scan.Goals as goal

pub returns-in-Scan : goal.returns-in-Scan
returns-in-Scan c =
    c.requires.goes
    ∙ on_frame c.args.going.now c.args.caller c.caller.result.now c.in_ok-frame.frame.now (Does c.plan_scan.result) c.caller.ensures.state c.in_ok-frame.ensures
    (λ rest. rw (c.in-Scan.is, sym c.items.ensures) (ap Does c.plan_scan.ensures))
