use Rattle.run_world.proofs.InputLaws.{bounded}
use Rattle.run_world.proofs.going.Going.stands.Goals as goal

pub returns-clause-bounded : goal.returns-clause-bounded
returns-clause-bounded c = rw (← c.self.view_is) (bounded c.self.inside.held.setup c.self.invariant.may)
