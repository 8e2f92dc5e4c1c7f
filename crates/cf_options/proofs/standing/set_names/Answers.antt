use Rattle.cf_options.specs.ItemFlags.{flag_of}
use Rattle.cf_options.proofs.LastLemmas.{names_more}
use Rattle.cf_options.proofs.standing.set_names.Goals as goal

pub loop-name-preserved : goal.loop-name-preserved
loop-name-preserved c =
    λ q h. names_more c.args.names.now c.loop-name.name-index c.name-item.result q c.args.stands (flag_of c.args.flags.now q) (flag_of c.loop-name.flags q) _
    c.loop-name-test.true c.name-item.is (c.loop-name.invariant q h) (c.in_ok-set.ensures q h)
