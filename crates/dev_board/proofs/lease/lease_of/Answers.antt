use Rattle.std.proofs.Common.{◌∙◌, refl}
use Rattle.run_rules.specs.declared.deed.Deed.TheVariants.{Close, Drop}
use Rattle.dev_board.proofs.LeaseLaws.{deed_keeps, opens_step, returns_step}
use Rattle.dev_board.proofs.lease.lease_of.Goals as goal

pub returns-in-Open : goal.returns-in-Open
returns-in-Open c = rw c.in-Open.is (opens_step c.args.going.now c.args.caller c.in-Open.of _ (rw c.in-Open.is at c.requires) ∙ c.opening_step.ensures)

pub returns-in-Close : goal.returns-in-Close
returns-in-Close c = rw c.in-Close.is (returns_step c.args.going.now c.args.caller c.in-Close.of (Close c.in-Close.of) (rw c.in-Close.is at c.requires) refl ∙ c.return_step.ensures)

pub returns-in-Drop : goal.returns-in-Drop
returns-in-Drop c = rw c.in-Drop.is (returns_step c.args.going.now c.args.caller c.in-Drop.of (Drop c.in-Drop.of) (rw c.in-Drop.is at c.requires) refl ∙ c.return_step-in-Drop.ensures)

pub returns-in_default : goal.returns-in_default
returns-in_default c = deed_keeps c.args.going.now c.args.caller c.args.deed.now c.in_default.not-Open c.in_default.not-Close c.in_default.not-Drop
