use Rattle.std.proofs.Common.{sym}
use Rattle.run_rules.proofs.Order.{device_found, device_missed}
use Rattle.dev_tree.proofs.lookup.device_at.Goals as goal

pub returns-in-Some : goal.returns-in-Some
returns-in-Some c = sym (device_found c.args.live.now c.in-Some.place c.args.serial _ c.requires.later c.in-Some.ensures.0 (c.in-Some.ensures.1 _))

pub returns-in-None : goal.returns-in-None
returns-in-None c = sym (device_missed c.args.live.now c.args.serial c.in-None.ensures)
