use Rattle.std.proofs.Common.{ℕ, ◌+◌, ◌∙◌, Bool, ap, arith, length, subst, sym}
use Rattle.run_rules.specs.World.{World}
use Rattle.run_rules.specs.declared.world.Setup.{Setup}
use Rattle.dev_board.proofs.WhoGoes.{Seen, over_so, seen_ended, seen_none, seen_wait, stuck_so}
use Rattle.dev_board.proofs.waiting.how_it_stands.Goals.{in-Ended, in-Waits}
use Rattle.dev_board.proofs.waiting.how_it_stands.Goals as goal

pub loop-caller-init : goal.loop-caller-init
loop-caller-init c = seen_none c.args.going.now

pub loop-caller-preserved : goal.loop-caller-preserved
loop-caller-preserved c =
    let w : World = c.args.going.now in
    let n : ℕ = c.loop-caller.caller in
    elim c.match-branch-2.branch [
      | in-Waits h ↦ subst (λ (b : Bool). Seen w (n + 1) b) (sym h.waits-is) (seen_wait w n c.loop-caller.waits _ c.loop-caller.invariant (c.in_ok-choice_of.ensures ∙ h.in-Waits.is))
      | in-Ended h ↦ subst (λ (b : Bool). Seen w (n + 1) b) (sym h.waits-is) (seen_ended w n c.loop-caller.waits c.stands.ensures.goes_on.kept c.loop-caller.invariant (c.in_ok-choice_of.ensures ∙ h.in-Ended.is))
    ]

pub returns-then-waits : goal.returns-then-waits
returns-then-waits c =
    let w : World = c.args.going.now in
    let all = c.loop-caller-test.false in
    let few = c.loop-caller.auto.caller-end in
    let many = c.len-scripts.ensures in
    stuck_so w c.loop-caller.caller c.stands.ensures.goes_on.kept (subst (λ (b : Bool). Seen w c.loop-caller.caller b) c.if-waits.true c.loop-caller.invariant) (omega (arith, ap (λ (s : Setup). length s.scripts) c.setup.ensures))

pub returns-else-waits : goal.returns-else-waits
returns-else-waits c =
    let w : World = c.args.going.now in
    let all = c.loop-caller-test.false in
    let few = c.loop-caller.auto.caller-end in
    let many = c.len-scripts.ensures in
    over_so w c.loop-caller.caller c.stands.ensures.goes_on.kept (subst (λ (b : Bool). Seen w c.loop-caller.caller b) c.if-waits.false c.loop-caller.invariant) (omega (arith, ap (λ (s : Setup). length s.scripts) c.setup.ensures))
