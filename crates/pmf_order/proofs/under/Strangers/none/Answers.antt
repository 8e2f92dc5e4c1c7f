use Rattle.run_rules.proofs.Climbs.{none_kept}
use Rattle.pmf_order.proofs.under.Strangers.none.Goals as goal

pub returns : goal.returns
returns c = λ live target. none_kept live target 64
