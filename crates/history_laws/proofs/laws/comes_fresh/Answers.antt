use Rattle.run_rules.specs.Laws.{ComesFresh}
use Rattle.history_laws.proofs.Always.{of_lawful}
use Rattle.history_laws.proofs.laws.comes_fresh.Goals as goal

pub returns : goal.returns
returns c = of_lawful ComesFresh (λ h e law. law.fresh)
