use Rattle.run_rules.specs.Tree.{tree_lines}
use Rattle.told_names.proofs.tree.tree_of.Goals as goal

pub returns : goal.returns
unfolding tree_lines
returns c = rw (c.make-lines.ensures, c.count.ensures.count) at c.in_ok-push_below.ensures
