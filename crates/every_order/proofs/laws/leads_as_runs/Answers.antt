use Rattle.every_order.proofs.Reaching.{as_runs}
use Rattle.every_order.proofs.laws.leads_as_runs.Goals as goal

pub returns : goal.returns
returns c = as_runs
