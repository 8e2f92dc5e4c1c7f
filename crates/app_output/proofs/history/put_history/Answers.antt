use Rattle.app_output.specs.RunText.{tree_of}
use Rattle.app_output.proofs.Puts.{passed_on}
use Rattle.app_output.proofs.RunLaws.{history_stops, history_then}
use Rattle.app_output.proofs.history.put_history.Goals as goal

pub returns-in_err-put_headed : goal.returns-in_err-put_headed
returns-in_err-put_headed g c =
    passed_on _ _ _ c.from_residual.result _ c.from_residual.ensures.1
    (history_stops c.args.events.now (tree_of c.args.devices.now) _ _ _ c.in_err-put_headed.ensures)

pub returns : goal.returns
returns g c = history_then c.args.events.now (tree_of c.args.devices.now) _ _ _ c.put_tree.result c.in_ok-put_headed.ensures c.put_tree.ensures
