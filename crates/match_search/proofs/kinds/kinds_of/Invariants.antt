use Rattle.match_search.specs.Leaders.{AreKinds}
use Rattle.match_search.proofs.kinds.kinds_of.Given as goal

abbrev pub invariant-loop-next : goal.invariant-loop-next
invariant-loop-next l = AreKinds l.rows l.kinds.items
