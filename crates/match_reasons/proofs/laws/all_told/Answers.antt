use Rattle.match_reasons.proofs.ToldLaws.{tells_all}
use Rattle.match_reasons.proofs.laws.all_told.Goals as goal

pub returns : goal.returns
returns c = tells_all
