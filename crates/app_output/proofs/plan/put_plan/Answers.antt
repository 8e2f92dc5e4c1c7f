use Rattle.cf_types.specs.Lines.{text_of}
use Rattle.config_rules.specs.Listing.{listing}
use Rattle.app_output.proofs.Puts.{passed_on, puts_stops, puts_then}
use Rattle.app_output.proofs.plan.put_plan.Goals as goal

pub put_listing-requires : goal.put_listing-requires
put_listing-requires g c = rw c.tables.ensures c.graph.ensures

pub returns-in_err-put_listing : goal.returns-in_err-put_listing
returns-in_err-put_listing g c =
    passed_on _ _ _ c.from_residual.result _ c.from_residual.ensures.1
    (puts_stops (listing c.args.tables.now) (text_of c.args.lines.now) _ _ _ (rw c.tables.ensures at c.in_err-put_listing.ensures))

pub returns : goal.returns
returns g c = puts_then (listing c.args.tables.now) (text_of c.args.lines.now) _ _ _ c.put_paths.result (rw c.tables.ensures at c.in_ok-put_listing.ensures) c.put_paths.ensures
