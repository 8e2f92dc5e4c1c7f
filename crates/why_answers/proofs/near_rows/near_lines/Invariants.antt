use Rattle.std.proofs.Common.{◌≡◌, ◌∷◌, length, map, take}
use Rattle.why_answers.specs.Near.{near_text}
use Rattle.why_answers.specs.Rows.{count_text}
use Rattle.why_answers.proofs.near_rows.near_lines.Given as goal

abbrev pub invariant-loop-row : goal.invariant-loop-row
invariant-loop-row l = l.lines.items ≡ count_text l.word (length l.rows) ∷ map (near_text l.width l.seen.rules.now l.seen.looks.now) (take l.row-index l.rows)
