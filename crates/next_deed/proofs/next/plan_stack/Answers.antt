use Rattle.std.proofs.Common.{◌≡◌, ◌∙◌, ℕ, false, subst}
use Rattle.std.proofs.lemmas.Result.{IfOk-weaker}
use Rattle.run_rules.specs.World.{caller_at, has_ended}
use Rattle.run_rules.specs.declared.deed.Choice.TheVariants.{Does}
use Rattle.run_rules.specs.Next.{on_top}
use Rattle.next_deed.proofs.ChooseLaws.{boots, goes_on, on_frame, on_own}
use Rattle.next_deed.proofs.next.plan_stack.Goals as goal

pub returns-in-Some : goal.returns-in-Some
returns-in-Some c =
    on_frame c.args.going.now c.args.caller c.caller.result.now c.in-Some.frame.now (Does c.plan_frame.result) c.caller.ensures.state c.in-Some.ensures (c.plan_frame.ensures c.args.caller)

pub plan_boot-requires : goal.plan_boot-requires
plan_boot-requires c =
    record {
      called = (c.stands.ensures.goes_on.kept.ranges.list
          (subst (λ (k : ℕ). has_ended c.args.going.now k ≡ false) c.if-caller-eq0.true c.requires.goes)).some;
    }

pub returns-then-caller-eq0 : goal.returns-then-caller-eq0
returns-then-caller-eq0 c =
    on_own c.args.going.now c.args.caller c.caller.result.now c.caller.ensures.state c.in-None.ensures ∙ boots c.args.going.now c.args.caller c.if-caller-eq0.true ∙ c.plan_boot.ensures

pub returns-else-caller-eq0 : goal.returns-else-caller-eq0
returns-else-caller-eq0 c =
    let w = c.args.going.now in
    let k = c.args.caller in
    IfOk-weaker _ _ (λ does. on_top w k (caller_at w k).stack ≡ does)
    (λ does is. on_own w k c.caller.result.now c.caller.ensures.state c.in-None.ensures ∙ goes_on w k c.if-caller-eq0.false ∙ is) c.plan_next.ensures
