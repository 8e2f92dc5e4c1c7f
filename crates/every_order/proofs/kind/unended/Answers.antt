use Rattle.std.proofs.Common.{◌∙◌, List, ap, sym, below_more, arith}
use Rattle.run_rules.specs.World.{Caller, is_ended}
use Rattle.plain_world.specs.Plain.{state_at}
use Rattle.every_order.proofs.Counting.{all_ended}
use Rattle.every_order.proofs.kind.unended.Goals as goal

pub loop-caller-preserved : goal.loop-caller-preserved
loop-caller-preserved c = λ s. below_more _ _ (c.loop-caller.invariant s) (ap (λ (cs : List Caller). is_ended (state_at cs c.loop-caller.caller).doing) (sym c.deref.ensures.value) ∙ sym c.has_ended.ensures ∙ c.if-not-has_ended.false)

pub returns : goal.returns
returns c = λ s. all_ended s c.args.plain.now c.loop-caller.caller (omega (arith, c.requires, c.loop-caller-test.false)) (c.loop-caller.invariant s)
