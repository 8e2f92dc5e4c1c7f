use Rattle.run_rules.specs.World.{has_ended}
use Rattle.next_deed.proofs.ChooseLaws.{later_waits}
use Rattle.next_deed.proofs.next.waits_for_boot.Goals as goal

pub returns-then-caller-ne0 : goal.returns-then-caller-ne0
returns-then-caller-ne0 c = later_waits c.args.caller c.has_ended.result (has_ended c.args.going.now 0) c.if-caller-ne0.true c.has_ended.ensures
