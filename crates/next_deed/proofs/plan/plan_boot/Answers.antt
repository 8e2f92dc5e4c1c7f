use Rattle.std.proofs.Common.{◌≡◌, ◌<◌, ◌≤◌, ◌∙◌, ap, arith, length, subst, Some, true, false}
use Rattle.run_rules.specs.Next.{finalise, next_boot}
use Rattle.run_rules.specs.World.{World}
use Rattle.run_rules.specs.declared.deed.Choice.TheVariants.{Does}
use Rattle.next_deed.proofs.PlanLaws.{boot_phase, boot_call, boot_anew, boot_over, index_there}
use Rattle.next_deed.proofs.plan.plan_boot.Goals as goal

pub returns-then-not-core : goal.returns-then-not-core
returns-then-not-core c = rw (← c.going.view_is, ← c.held.view_is) (boot_phase _ c.if-not-core.true)

pub returns-then-core-len : goal.returns-then-core-len
returns-then-core-len c =
    let core = c.held.inside.core in
    let view = c.held.view_is ∙ c.going.view_is in
    let before : core.next_finaliser < length core.finalisers.items = omega (arith, c.len.ensures, core.finalisers.ok, c.if-core-len.true) in
    subst (λ (w : World). next_boot w ≡ Does (finalise w c.index-serial.result.now (Some core.next_finaliser) false)) view
    (boot_call _ c.index-serial.result.now c.if-not-core.false before (index_there core.finalisers.items core.next_finaliser c.index-serial.result.now before c.index-serial.ensures))
    ∙ ap Does c.plan_call.ensures

pub returns-then-core : goal.returns-then-core
returns-then-core c =
    let core = c.held.inside.core in
    let view = c.held.view_is ∙ c.going.view_is in
    let past : length core.finalisers.items ≤ core.next_finaliser = omega (arith, c.len.ensures, core.finalisers.ok, c.if-core-len.false) in
    let called = rw (← c.going.view_is, ← c.held.view_is) at c.requires.called in
    subst (λ (w : World). next_boot w ≡ Does (finalise w c.index.result.now (Some 0) true)) view
    (boot_anew _ c.index.result.now c.if-not-core.false past c.if-core.true (index_there core.finalisers.items 0 c.index.result.now (called c.if-core.true) c.index.ensures))
    ∙ ap Does c.plan_call-then-core.ensures

pub returns : goal.returns
returns c =
    let core = c.held.inside.core in
    let past : length core.finalisers.items ≤ core.next_finaliser = omega (arith, c.len.ensures, core.finalisers.ok, c.if-core-len.false) in
    rw (← c.going.view_is, ← c.held.view_is) (boot_over _ c.if-not-core.false past c.if-core.false)
