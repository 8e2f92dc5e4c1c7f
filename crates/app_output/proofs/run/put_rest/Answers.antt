use Rattle.run_rules.specs.Tree.{tree_text}
use Rattle.app_output.proofs.Puts.{passed_on}
use Rattle.app_output.proofs.RunLaws.{history_stops, history_then}
use Rattle.app_output.proofs.run.put_rest.Goals as goal

pub returns-in_err-put_headed : goal.returns-in_err-put_headed
returns-in_err-put_headed g c =
    passed_on _ _ _ c.from_residual.result _ c.from_residual.ensures.1
    (history_stops c.args.board.now.events (tree_text c.args.board.now.world) _ _ _ c.in_err-put_headed.ensures)

pub returns : goal.returns
returns g c =
    history_then c.args.board.now.events (tree_text c.args.board.now.world) _ _ _ c.put_board_tree.result c.in_ok-put_headed.ensures c.put_board_tree.ensures
