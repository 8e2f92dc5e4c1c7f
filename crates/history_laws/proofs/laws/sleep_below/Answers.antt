use Rattle.run_rules.specs.Laws.{SleepsBelow}
use Rattle.history_laws.proofs.Always.{of_run}
use Rattle.history_laws.proofs.LawsHold.{sleeping_below}
use Rattle.history_laws.proofs.laws.sleep_below.Goals as goal

pub returns : goal.returns
returns c = of_run (λ h v. SleepsBelow h) sleeping_below
