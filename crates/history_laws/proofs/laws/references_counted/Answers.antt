use Rattle.history_laws.specs.Counted.{AreAllCounted}
use Rattle.history_laws.proofs.Always.{of_run}
use Rattle.history_laws.proofs.laws.references_counted.Goals as goal

pub returns : goal.returns
returns c = of_run (λ h v. AreAllCounted h v.refs) (λ h v at. at.counted.refs)
