use Rattle.cf_rows.specs.Idle.{ArePlacesOfOrphans}
use Rattle.cf_rows.proofs.WarnLemmas.{IsMerged}
use Rattle.cf_rows.proofs.idle.merged.Given as goal

abbrev pub invariant-loop-place : goal.invariant-loop-place
invariant-loop-place l = (insts : _) → ArePlacesOfOrphans l.warned.orphans.now insts → IsMerged l.files insts l.placed l.place l.made l.instances l.items l.left
