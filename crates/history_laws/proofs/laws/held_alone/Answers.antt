use Rattle.run_rules.specs.Laws.{HoldsAlone}
use Rattle.history_laws.proofs.Always.{of_run}
use Rattle.history_laws.proofs.LawsHold.{sole_alone}
use Rattle.history_laws.proofs.laws.held_alone.Goals as goal

pub returns : goal.returns
returns c = of_run (λ h v. HoldsAlone h) sole_alone
