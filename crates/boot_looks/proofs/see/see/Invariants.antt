use Rattle.std.proofs.Common.{length}
use Rattle.plain_world.specs.Plain.{world_of}
use Rattle.boot_looks.specs.Looks.{span_of}
use Rattle.boot_looks.proofs.Spans.{SeesTo}
use Rattle.boot_looks.proofs.see.see.Given as goal

abbrev pub invariant-loop-spot : goal.invariant-loop-spot
invariant-loop-spot l = SeesTo (world_of l.seeker.rules.now l.plain) l.plain.live l.deed (span_of l.deed (length l.fn.looks.items)) l.spot l.fn.looks.items l.looks.items
