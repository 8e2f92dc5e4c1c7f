use Rattle.std.proofs.Common.{◌∙◌}
use Rattle.run_rules.specs.Tree.{tree_text}
use Rattle.app_output.proofs.Puts.{puts_nothing}
use Rattle.app_output.proofs.RunLaws.{tree_put}
use Rattle.app_output.proofs.run.put_board_tree.Goals as goal

pub returns-in_default : goal.returns-in_default
returns-in_default g c = puts_nothing (tree_text c.args.board.now.world) _

pub returns : goal.returns
returns g c = tree_put c.args.board.now.world c.items.result.now _ _ c.put_tree.result (c.items.ensures ∙ c.in-Ok.ensures.lines) c.put_tree.ensures
