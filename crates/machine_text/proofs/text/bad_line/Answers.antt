use Rattle.std.proofs.Common.{◌∙◌, sym}
use Rattle.machine_text.proofs.PlainLemmas.{no_bad_line}
use Rattle.machine_text.proofs.text.bad_line.Goals as goal

pub returns-then-are_plain : goal.returns-then-are_plain
returns-then-are_plain c = no_bad_line c.args.text.now (sym c.are_plain.ensures ∙ c.if-are_plain.true)
