use Rattle.run_rules.specs.Laws.{FreesUnheld}
use Rattle.history_laws.proofs.Always.{of_lawful}
use Rattle.history_laws.proofs.laws.freed_unheld.Goals as goal

pub returns : goal.returns
returns c = of_lawful FreesUnheld (λ h e law. law.unreferred)
