use Rattle.std.proofs.Common.{drop}
use Rattle.run_world.proofs.WantedLaws.{IsSoFar}
use Rattle.run_world.proofs.rescan_filter.wanted_of.Given as goal

abbrev pub invariant-loop-value : goal.invariant-loop-value
invariant-loop-value l = IsSoFar l.locators l.given (drop l.value-index l.given) l.list
