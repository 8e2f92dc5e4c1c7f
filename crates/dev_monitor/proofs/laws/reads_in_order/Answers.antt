use Rattle.dev_monitor.proofs.CallLaws.{in_order}
use Rattle.dev_monitor.proofs.laws.reads_in_order.Goals as goal

pub returns : goal.returns
returns c = in_order
