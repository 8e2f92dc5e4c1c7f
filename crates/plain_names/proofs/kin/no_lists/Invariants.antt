use Rattle.plain_names.specs.Kin.{AreEmpty}
use Rattle.plain_names.proofs.kin.no_lists.Given as goal

abbrev pub invariant-loop-list : goal.invariant-loop-list
invariant-loop-list l = AreEmpty l._list l.lists.items
