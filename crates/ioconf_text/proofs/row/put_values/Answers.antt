use Rattle.std.proofs.Common.{pos}
use Rattle.cf_types.proofs.ListLemmas.{enumerate_more}
use Rattle.config_rules.specs.Listing.{value_text}
use Rattle.ioconf_text.proofs.SeekLemmas.{spaced_step}
use Rattle.ioconf_text.proofs.row.put_values.Goals as goal

pub loop-n-preserved : goal.loop-n-preserved
loop-n-preserved c =
    spaced_step (value_text c.args.locators.now) _ _ _ _ _ _ (enumerate_more c.args.values.now c.loop-n.n (pos 0) c.loop-n-test.true) c.loop-n.invariant c.in_ok-put_spaced_value.ensures
