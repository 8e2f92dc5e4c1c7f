use Rattle.std.proofs.Common.{Bool, List, map, sym, subst}
use Rattle.run_rules.specs.After.{with_sleep}
use Rattle.run_rules.specs.declared.world.Dev.{Dev}
use Rattle.dev_tree.specs.Rest.{AreResting}
use Rattle.dev_tree.proofs.RestLaws.{rest_fallen, rest_woken}
use Rattle.run_rules.proofs.Order.{none_rested}
use Rattle.dev_tree.proofs.resting.Resting.marked.Goals as goal

pub returns-then-asleep : goal.returns-then-asleep
returns-then-asleep c = λ h.
    subst (λ (b : Bool). AreResting (map (with_sleep c.args.serial b) c.args.live.now) c.fallen.result) (sym c.if-asleep.true)
    (rest_fallen c.args.live.now c.in-Some.place c.args.serial c.args.self c.fallen.result c.requires.later c.in-Some.ensures.0 c.in-Some.ensures.1 c.fallen.ensures.before c.fallen.ensures.from h)

pub returns-else-asleep : goal.returns-else-asleep
returns-else-asleep c = λ h.
    subst (λ (b : Bool). AreResting (map (with_sleep c.args.serial b) c.args.live.now) c.woken.result) (sym c.if-asleep.false)
    (rest_woken c.args.live.now c.in-Some.place c.args.serial c.args.self c.woken.result c.requires.later c.in-Some.ensures.0 c.in-Some.ensures.1 c.woken.ensures.before c.woken.ensures.from h)

pub returns-in-None : goal.returns-in-None
returns-in-None c = λ h. subst (λ (ds : List Dev). AreResting ds c.args.self) (none_rested c.args.live.now c.args.serial c.args.asleep c.in-None.ensures) h
