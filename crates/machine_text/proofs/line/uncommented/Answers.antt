use Rattle.machine_text.proofs.CommentLemmas.{before_mark, no_mark}
use Rattle.machine_text.proofs.line.uncommented.Goals as goal

pub returns-in-Some : goal.returns-in-Some
returns-in-Some c = before_mark c.args.line.now c.in-Some.place c.in-Some.ensures

pub returns-in-None : goal.returns-in-None
returns-in-None c = no_mark c.args.line.now c.in-None.ensures
