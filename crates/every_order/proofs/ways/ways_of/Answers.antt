use Rattle.every_order.proofs.Texts.{sorted_texts}
use Rattle.every_order.proofs.ways.ways_of.Goals as goal

pub returns-clause-in_order : goal.returns-clause-in_order
returns-clause-in_order c = sorted_texts c.args.texts.entries c.len.ensures.ordered
