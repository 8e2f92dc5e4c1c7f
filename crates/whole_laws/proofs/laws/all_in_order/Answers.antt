use Rattle.whole_laws.proofs.Ordered.{all_in_order}
use Rattle.whole_laws.proofs.laws.all_in_order.Goals as goal

pub returns : goal.returns
returns c = all_in_order
