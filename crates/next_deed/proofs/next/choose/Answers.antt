use Rattle.std.proofs.Common.{◌≡◌, ◌∙◌, sym, ap}
use Rattle.std.proofs.lemmas.Result.{IfOk-weaker}
use Rattle.run_rules.specs.Next.{by_activity, next}
use Rattle.run_rules.specs.World.{Caller}
use Rattle.next_deed.proofs.ChooseLaws.{next_ended, next_goes, next_waits}
use Rattle.next_deed.proofs.next.choose.Goals as goal

pub returns-then-has_ended : goal.returns-then-has_ended
returns-then-has_ended c = next_ended c.args.going.now c.args.caller (sym c.has_ended.ensures ∙ c.if-has_ended.true)

pub returns-then-waits_for_boot : goal.returns-then-waits_for_boot
returns-then-waits_for_boot c = next_waits c.args.going.now c.args.caller (sym c.has_ended.ensures ∙ c.if-has_ended.false) (c.waits_for_boot.ensures ∙ c.if-waits_for_boot.true)

pub plan_activity-requires-clause-goes : goal.plan_activity-requires-clause-goes
plan_activity-requires-clause-goes c = sym c.has_ended.ensures ∙ c.if-has_ended.false

pub returns : goal.returns
returns c =
    let w = c.args.going.now in
    let k = c.args.caller in
    IfOk-weaker _ _ (λ does. next w k ≡ does)
    (λ does is. next_goes w k (sym c.has_ended.ensures ∙ c.if-has_ended.false) (c.waits_for_boot.ensures ∙ c.if-waits_for_boot.false)
    ∙ ap (by_activity w k) (sym (ap (λ (c : Caller). c.doing) c.caller.ensures.state)) ∙ is) c.plan_activity.ensures
