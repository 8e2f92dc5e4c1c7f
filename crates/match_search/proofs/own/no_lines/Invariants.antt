use Rattle.std.proofs.Common.{[]}
use Rattle.run_rules.specs.MatchLines.{AreOwnLines, lines_in}
use Rattle.match_search.proofs.own.no_lines.Given as goal

abbrev pub invariant-loop-spot : goal.invariant-loop-spot
invariant-loop-spot l = AreOwnLines l._spot-index [] (lines_in l.lists.items)
