use Rattle.run_rules.specs.Laws.{HoldsInUse}
use Rattle.history_laws.proofs.Always.{of_lawful}
use Rattle.history_laws.proofs.laws.held_in_use.Goals as goal

pub returns : goal.returns
returns c = of_lawful HoldsInUse (λ h e law. law.held_in_use)
