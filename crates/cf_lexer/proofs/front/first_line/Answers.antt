use Rattle.std.proofs.Common.{ap, sym}
use Rattle.cf_lexer.specs.Lines.{head_line}
use Rattle.cf_lexer.proofs.TextLemmas.{line_at, line_whole}
use Rattle.cf_lexer.proofs.front.first_line.Goals as goal

pub returns-in-Some : goal.returns-in-Some
returns-in-Some c = sym (ap head_line (line_at c.args.text.now c.in-Some.place c.in-Some.ensures))

pub returns-in-None : goal.returns-in-None
returns-in-None c = sym (ap head_line (line_whole c.args.text.now c.in-None.ensures))
