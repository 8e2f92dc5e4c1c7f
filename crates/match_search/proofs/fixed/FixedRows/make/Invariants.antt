use Rattle.match_search.specs.Fixed.{lists_of}
use Rattle.match_search.proofs.FixedLaws.{AreIn}
use Rattle.match_search.proofs.fixed.FixedRows.make.Given as goal

abbrev pub invariant-loop-number : goal.invariant-loop-number
invariant-loop-number l = AreIn l.rows l.number (lists_of l.lists.items)
