use Rattle.std.proofs.Common.{◌≡◌, ◌∷◌, length, map, take}
use Rattle.why_answers.specs.Rows.{count_text, row_text}
use Rattle.why_answers.proofs.rows.rows_lines.Given as goal

abbrev pub invariant-loop-number : goal.invariant-loop-number
invariant-loop-number l = l.lines.items ≡ count_text l.word (length l.rows) ∷ map (row_text l.tables) (take l.number-index l.rows)
