use Rattle.run_rules.specs.Sound.{HaveOwnNames}
use Rattle.history_laws.proofs.Always.{of_run, own_names}
use Rattle.history_laws.proofs.laws.names_differ.Goals as goal

pub returns : goal.returns
returns c = of_run (λ h v. HaveOwnNames v.setup v.live) own_names
