use Rattle.std.proofs.Common.{inr}
use Rattle.cf_io.proofs.GrowsLemmas.{front_put, takes_flushed}
use Rattle.app_output.proofs.status.deliver.Goals as goal

pub returns-in-Failed : goal.returns-in-Failed
returns-in-Failed g c = inr (front_put c.args.text.now c.in-Failed.field-0 _ _ c.in-Failed.ensures.taken.1, c.in-Failed.ensures.taken.2)

pub returns : goal.returns
returns g c = takes_flushed c.args.text.now c.flush.result _ _ _ c.in_default.ensures.taken.0 c.in_default.ensures.taken.1 c.flush.ensures.flushed
