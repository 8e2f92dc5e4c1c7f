use Rattle.app_output.proofs.Puts.{passed_on}
use Rattle.app_output.proofs.RunLaws.{run_stops, run_then}
use Rattle.app_output.proofs.run.put_run.Goals as goal

pub put_listing-requires : goal.put_listing-requires
put_listing-requires g c = rw c.tables.ensures c.graph.ensures

pub returns-in_err-put_listing : goal.returns-in_err-put_listing
returns-in_err-put_listing g c =
    passed_on _ _ _ c.from_residual.result _ c.from_residual.ensures.1
    (run_stops c.tables.result.now _ c.args.board.now.events c.args.board.now.world _ _ _ c.tables.ensures c.in_err-put_listing.ensures)

pub returns : goal.returns
returns g c = run_then c.tables.result.now _ c.args.board.now.events c.args.board.now.world _ _ _ c.put_rest.result c.tables.ensures c.in_ok-put_listing.ensures c.put_rest.ensures
