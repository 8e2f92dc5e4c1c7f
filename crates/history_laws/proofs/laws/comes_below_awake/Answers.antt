use Rattle.run_rules.specs.Laws.{ComesBelowAwake}
use Rattle.history_laws.proofs.Always.{of_lawful}
use Rattle.history_laws.proofs.laws.comes_below_awake.Goals as goal

pub returns : goal.returns
returns c = of_lawful ComesBelowAwake (λ h e law. law.below_awake)
