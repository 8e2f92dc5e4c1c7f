use Rattle.cf_select.proofs.WantLemmas.{wants_more}
use Rattle.cf_select.proofs.wants.lists_of.Goals as goal

pub loop-place-preserved : goal.loop-place-preserved
loop-place-preserved c = λ q x.
    wants_more c.args.instances.now c.loop-place.place c.index-instances-place.result q x _ _ c.loop-place-test.true c.index-instances-place.is (c.loop-place.invariant q x) (c.in_ok-put.ensures q x)
