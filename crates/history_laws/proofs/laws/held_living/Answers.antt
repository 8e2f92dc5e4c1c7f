use Rattle.run_rules.specs.Laws.{HoldsLiving}
use Rattle.history_laws.proofs.Always.{of_run}
use Rattle.history_laws.proofs.LawsHold.{dead_unheld}
use Rattle.history_laws.proofs.laws.held_living.Goals as goal

pub returns : goal.returns
returns c = of_run (λ h v. HoldsLiving h) dead_unheld
