use Rattle.run_rules.specs.Laws.{HoldsFew}
use Rattle.history_laws.proofs.Always.{of_run}
use Rattle.history_laws.proofs.LawsHold.{held_few}
use Rattle.history_laws.proofs.laws.held_few.Goals as goal

pub returns : goal.returns
returns c = of_run (λ h v. HoldsFew h) held_few
