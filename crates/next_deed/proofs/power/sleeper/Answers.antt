use Rattle.std.proofs.Common.{◌∙◌, sym}
use Rattle.next_deed.proofs.ChoiceLaws.{serials_rise, sleeper_is}
use Rattle.next_deed.proofs.power.sleeper.Goals as goal

pub returns-in-Some : goal.returns-in-Some
returns-in-Some c =
    let w = c.args.going.now in
    sleeper_is w.live c.args.target c.in-Some.serial (serials_rise w c.stands.ensures.goes_on.kept) (rw c.tree.ensures at c.in-Some.ensures) ∙ sym c.device.ensures.found
