use Rattle.std.proofs.Common.{◌≡◌, map, take}
use Rattle.why_text.specs.WhyText.{head_text, widest}
use Rattle.why_text.proofs.lines.column.Given as goal

abbrev pub invariant-loop-row : goal.invariant-loop-row
invariant-loop-row l = l.width ≡ widest (map (head_text l.tables) (take l.row-index l.rows))
