use Rattle.std.proofs.Common.{◌∙◌, ap, sym}
use Rattle.std.specs.Prelude.{Option, option_and_then}
use Rattle.run_rules.specs.Next.{late_spot}
use Rattle.run_rules.specs.declared.world.Dev.{Dev}
use Rattle.next_deed.proofs.late.shown_by.Goals as goal

pub returns-in-Some : goal.returns-in-Some
unfolding late_spot
returns-in-Some c = ap (λ (o : Option Dev). option_and_then (late_spot c.args.going.now) o) (sym c.device.ensures.found ∙ c.in-Some.is) ∙ c.late_spot.ensures
