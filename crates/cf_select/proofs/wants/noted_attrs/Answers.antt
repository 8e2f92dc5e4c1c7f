use Rattle.cf_select.proofs.WantLemmas.{noted_more}
use Rattle.cf_select.proofs.wants.noted_attrs.Goals as goal

pub loop-instance-preserved : goal.loop-instance-preserved
loop-instance-preserved c = λ q x.
    noted_more c.args.instances.now c.loop-instance.instance-index c.instance-item.result q x _ _ c.loop-instance-test.true c.instance-item.is
    (c.loop-instance.invariant q x) (c.in_ok-note_place.ensures.wanted q) (c.in_ok-note_place.ensures.kept q.attr)
