use Rattle.std.proofs.Common.{false, None}
use Rattle.run_rules.specs.declared.world.Dev.{Dev}
use Rattle.run_rules.proofs.Order.{none_rested, one_rested}
use Rattle.dev_tree.proofs.mark.mark_sleep.Goals as goal

-- what stands past the end
abbrev blank : Dev
blank = record { serial = 0; row = 0; unit = 0; parent = 0; spot = 0; asleep = false; condemned = None }

pub returns-in-Some : goal.returns-in-Some
returns-in-Some c =
    one_rested c.args.live.now c.in-Some.place c.args.serial c.args.asleep blank c.requires.later c.in-Some.ensures.0 (c.in-Some.ensures.1 blank)

pub returns-in-None : goal.returns-in-None
returns-in-None c = none_rested c.args.live.now c.args.serial c.args.asleep c.in-None.ensures
