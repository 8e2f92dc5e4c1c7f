use Rattle.match_reasons.specs.Searches.{parent_by}
use Rattle.match_reasons.proofs.ToldLaws.{HasTold}
use Rattle.match_reasons.proofs.told.told_of.Given as goal

abbrev pub invariant-loop-row : goal.invariant-loop-row
invariant-loop-row l = HasTold l.rules l.live.devices (parent_by l.rules l.search.parent) l.search.place l.search.spot l.row l.rows l.others
