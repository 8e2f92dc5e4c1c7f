use Rattle.why_answers.proofs.Reasons.{has_reason}
use Rattle.why_answers.proofs.laws.unsearched_have_reasons.Goals as goal

pub returns : goal.returns
returns c = has_reason
