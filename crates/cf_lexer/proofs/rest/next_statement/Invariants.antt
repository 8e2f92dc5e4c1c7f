use Rattle.std.proofs.Common.{◌+◌, ◌-◌, length}
use Rattle.cf_lexer.proofs.PlaceLemmas.{place_of}
use Rattle.cf_lexer.proofs.RestLemmas.{Passing}
use Rattle.cf_lexer.proofs.rest.next_statement.Given as goal

abbrev pub invariant-loop-left : goal.invariant-loop-left
invariant-loop-left l = Passing l.text l.fn.rest l.line l.left

abbrev pub decreases-loop-left : goal.decreases-loop-left
decreases-loop-left l = length l.text + 1 - place_of l.text l.left
