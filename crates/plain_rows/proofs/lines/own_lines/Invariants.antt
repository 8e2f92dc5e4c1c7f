use Rattle.std.proofs.Common.{take, length}
use Rattle.run_rules.specs.MatchLines.{AreOwnLines, lines_in}
use Rattle.plain_rows.proofs.lines.own_lines.Given as goal

abbrev pub invariant-loop-line : goal.invariant-loop-line
invariant-loop-line l = AreOwnLines (length l.spots) (take l.line-index l.lines) (lines_in l.lists.items)
