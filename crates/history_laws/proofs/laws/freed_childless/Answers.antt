use Rattle.run_rules.specs.Laws.{FreesChildless}
use Rattle.history_laws.proofs.Always.{of_lawful}
use Rattle.history_laws.proofs.laws.freed_childless.Goals as goal

pub returns : goal.returns
returns c = of_lawful FreesChildless (λ h e law. law.childless)
