use Rattle.why_answers.proofs.name.why_lines.Goals as goal

pub returns : goal.returns
returns c = rw c.tables.ensures at c.lines_under.ensures
