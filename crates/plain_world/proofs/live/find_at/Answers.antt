use Rattle.std.proofs.Common.{sym}
use Rattle.run_rules.proofs.Order.{device_found, device_missed}
use Rattle.plain_world.proofs.live.find_at.Goals as goal

pub returns-in-Some : goal.returns-in-Some
returns-in-Some c = sym (device_found c.args.devices.now c.in-Some.place c.args.serial _ c.requires c.in-Some.ensures.0 (c.in-Some.ensures.1 _))

pub returns-in-None : goal.returns-in-None
returns-in-None c = sym (device_missed c.args.devices.now c.args.serial c.in-None.ensures)
