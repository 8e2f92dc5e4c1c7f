use Rattle.script_text.proofs.WatchLemmas.{few_words, many_words}
use Rattle.script_text.proofs.watch_line.subscriber_in.Goals as goal

pub returns-in_default-clause-leaves : goal.returns-in_default-clause-leaves
returns-in_default-clause-leaves c = few_words c.args.words.now c.in_default.len_below

pub returns-in_default-2-clause-leaves : goal.returns-in_default-2-clause-leaves
returns-in_default-2-clause-leaves c = many_words c.args.words.now c.in_default.len_at_least
