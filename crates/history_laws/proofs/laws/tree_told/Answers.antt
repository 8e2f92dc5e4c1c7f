use Rattle.run_rules.specs.Tree.{tree_lines}
use Rattle.history_laws.specs.Tells.{TellsTree}
use Rattle.history_laws.proofs.Always.{of_run}
use Rattle.history_laws.proofs.TreeTold.{tells_tree}
use Rattle.history_laws.proofs.laws.tree_told.Goals as goal

pub returns : goal.returns
returns c = of_run (λ h v. TellsTree h (tree_lines v)) tells_tree
