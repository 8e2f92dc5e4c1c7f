use Rattle.std.proofs.Common.{◌≡◌, [], length}
use Rattle.machine_text.specs.Words.{seen}
use Rattle.live_rules.specs.PlanText.{members_of}
use Rattle.live_tables.proofs.members.members_of.Given as goal

abbrev pub invariant-loop-rest : goal.invariant-loop-rest
invariant-loop-rest l = members_of l.tables l.groups l.members (seen l.rest) ≡ members_of l.tables l.groups [] (seen l.names)

abbrev pub decreases-loop-rest : goal.decreases-loop-rest
decreases-loop-rest l = length l.rest
