use Rattle.std.proofs.Common.{◌∙◌}
use Rattle.script_text.proofs.PairLemmas.{few_pairs}
use Rattle.script_text.proofs.pairs.are_pairs.Goals as goal

pub returns : goal.returns
returns c = c.is_empty.ensures ∙ few_pairs c.loop-rest.rest.now c.in_default.len_below ∙ c.loop-rest.invariant
