use Rattle.match_reasons.proofs.FirstLaws.{first_reason}
use Rattle.match_reasons.proofs.laws.first_reasons.Goals as goal

pub returns : goal.returns
returns c = first_reason
