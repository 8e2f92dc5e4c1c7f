use Rattle.std.proofs.Common.{◌∙◌, sym}
use Rattle.next_deed.proofs.ChoiceLaws.{busy_with}
use Rattle.next_deed.proofs.command.if_free.Goals as goal

pub returns-in-Some : goal.returns-in-Some
returns-in-Some c = busy_with c.args.going.now c.args.leaving.caller c.args.leaving.target c.in-Some.other c.args.leaving.forced c.args.deed (sym c.in-Some.is ∙ c.in_ok-other.ensures)
