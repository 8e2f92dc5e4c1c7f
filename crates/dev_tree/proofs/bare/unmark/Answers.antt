use Rattle.dev_tree.proofs.BareLaws.{unmarked_at, unmarked_none}
use Rattle.dev_tree.proofs.bare.unmark.Goals as goal

pub returns-in-Some-clause-marks : goal.returns-in-Some-clause-marks
returns-in-Some-clause-marks c =
    unmarked_at c.args.live.now c.args.bare.now.items c.in-Some.place c.args.serial c.requires.order.later c.requires.count c.in-Some.ensures.0 c.in-Some.ensures.1

pub returns-in-None-clause-marks : goal.returns-in-None-clause-marks
returns-in-None-clause-marks c = unmarked_none c.args.live.now c.args.bare.now.items c.args.serial c.in-None.ensures
