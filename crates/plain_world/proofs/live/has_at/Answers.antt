use Rattle.std.proofs.Common.{false, None, sym}
use Rattle.run_rules.specs.declared.world.Dev.{Dev}
use Rattle.run_rules.proofs.Order.{live_found}
use Rattle.plain_world.proofs.live.has_at.Goals as goal

-- what stands past the end
abbrev blank : Dev
blank = record { serial = 0; row = 0; unit = 0; parent = 0; spot = 0; asleep = false; condemned = None }

pub returns-in-Some : goal.returns-in-Some
returns-in-Some c = sym (live_found c.args.devices.now _ c.args.serial blank c.in-Some.ensures.0 (c.in-Some.ensures.1 blank))

pub returns-in-None : goal.returns-in-None
returns-in-None c = sym c.in-None.ensures
