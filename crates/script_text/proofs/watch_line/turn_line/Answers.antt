use Rattle.script_text.proofs.WatchLemmas.{many_turns}
use Rattle.script_text.proofs.watch_line.turn_line.Goals as goal

pub returns-in_default-2-clause-leaves : goal.returns-in_default-2-clause-leaves
returns-in_default-2-clause-leaves c = many_turns c.args.callers c.args.words.now c.in_default.len_at_least
