use Rattle.std.proofs.Common.{string_bytes, sym, ◌∙◌}
use Rattle.app_words.proofs.CountLemmas.{too_many}
use Rattle.app_words.proofs.words.load_words.Goals as goal

pub returns-then-not-is_empty : goal.returns-then-not-is_empty
returns-then-not-is_empty c = too_many string_bytes c.args.operands.now c.in-Some.word.now c.in-Some.more.now c.in-Some.ensures.cases.0 (sym c.is_empty.ensures ∙ c.if-not-is_empty.true)
