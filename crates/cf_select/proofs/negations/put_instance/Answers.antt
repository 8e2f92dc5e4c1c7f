use Rattle.cf_select.proofs.NamingLemmas.{instance_names, listed_three}
use Rattle.cf_select.proofs.negations.put_instance.Goals as goal

pub returns : goal.returns
returns c = λ q x.
    listed_three _ _ _ _ _ _ _ c.args.place x _ (c.in_ok-push_place.ensures q) (c.in_ok-push_place-2.ensures q) (c.in_ok-push_place-3.ensures q)
    (instance_names c.args.stmt.now c.bytes-base.result c.unit_of-unit.result c.attachment-at.result _ _ _ _ _ q c.in-Inst.is c.bytes-base.ensures.bytes c.unit_of-unit.ensures c.attachment-at.ensures)
