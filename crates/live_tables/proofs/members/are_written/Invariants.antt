use Rattle.std.proofs.Common.{◌≡◌, length}
use Rattle.std.specs.List.{list_all}
use Rattle.cf_text.specs.Shapes.{is_written}
use Rattle.machine_text.specs.Words.{seen}
use Rattle.live_tables.proofs.members.are_written.Given as goal

abbrev pub invariant-loop-rest : goal.invariant-loop-rest
invariant-loop-rest l = list_all is_written (seen l.rest) ≡ list_all is_written (seen l.words)

abbrev pub decreases-loop-rest : goal.decreases-loop-rest
decreases-loop-rest l = length l.rest
