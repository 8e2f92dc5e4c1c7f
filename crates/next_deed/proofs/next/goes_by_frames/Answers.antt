use Rattle.std.proofs.Common.{◌∙◌, ap, refl, sym}
use Rattle.run_rules.specs.World.{Caller}
use Rattle.run_rules.specs.declared.world.Activity.TheVariants.{Idle, Scans}
use Rattle.next_deed.proofs.ChooseLaws.{next_doing}
use Rattle.next_deed.proofs.next.goes_by_frames.Goals as goal

pub returns-in-Scans : goal.returns-in-Scans
returns-in-Scans c = λ _.
    next_doing c.args.going.now c.args.caller Scans (sym (ap (λ (c : Caller). c.doing) c.caller.ensures.state) ∙ c.in-Scans.is) refl (c.waits_for_boot.ensures ∙ c.if-waits_for_boot.false)

pub returns-in-Idle : goal.returns-in-Idle
returns-in-Idle c = λ _.
    next_doing c.args.going.now c.args.caller Idle (sym (ap (λ (c : Caller). c.doing) c.caller.ensures.state) ∙ c.in-Idle.is) refl (c.waits_for_boot.ensures ∙ c.if-waits_for_boot.false)
