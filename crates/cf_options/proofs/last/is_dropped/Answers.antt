use Rattle.cf_options.proofs.LastLemmas.{none_dropped}
use Rattle.cf_options.proofs.last.is_dropped.Goals as goal

pub returns-then-is_empty : goal.returns-then-is_empty
returns-then-is_empty c = none_dropped c.args.last.now c.args.place c.args.name.now (c.is_empty.ensures.0 c.if-is_empty.true)
