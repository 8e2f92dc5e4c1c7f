use Rattle.cf_expand.proofs.NameLemmas.{in_set, past_set}
use Rattle.cf_expand.proofs.placed.PlacedList.declare.Goals as goal

pub returns-then-contains : goal.returns-then-contains
returns-then-contains c =
    let inside = c.self.inside in
    rw (← c.self.view_is) (in_set inside.items.items inside.names inside.noted c.args.name.now c.contains.result c.self.invariant.0 c.contains.ensures c.if-contains.true)

pub returns-else-contains : goal.returns-else-contains
returns-else-contains c =
    let inside = c.self.inside in
    rw (← c.self.view_is) (past_set inside.items.items inside.names inside.noted c.args.name.now c.contains.result c.is_declared.result c.self.invariant.0 c.contains.ensures c.if-contains.false
    (rw c.deref.ensures.value at c.is_declared.ensures))
