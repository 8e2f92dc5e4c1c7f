use Rattle.std.proofs.Common.{◌∙◌}
use Rattle.plain_world.specs.Plain.{world_of}
use Rattle.progress_laws.proofs.Boots.{no_end, no_wait}
use Rattle.boot_looks.proofs.boot.boot_deed.Goals as goal

pub unreachable-requires : goal.unreachable-requires
unreachable-requires c = no_wait (world_of c.args.seeker.now.rules.now c.args.plain.now) c.in-Waits.field-0 c.requires.kept c.requires.goes_on (c.in_ok-deed.ensures ∙ c.in-Waits.is)

pub unreachable-requires-in-Ended : goal.unreachable-requires-in-Ended
unreachable-requires-in-Ended c = no_end (world_of c.args.seeker.now.rules.now c.args.plain.now) c.requires.kept c.requires.goes_on (c.in_ok-deed.ensures ∙ c.in-Ended.is)
