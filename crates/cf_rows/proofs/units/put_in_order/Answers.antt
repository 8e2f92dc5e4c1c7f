use Rattle.std.proofs.Common.{ap, ◌∙◌, ◌++◌, List}
use Rattle.std.specs.Prelude.{flat_map}
use Rattle.std.proofs.lemmas.List.{take_all}
use Rattle.cf_types.specs.declared.instance.Instance.{Instance}
use Rattle.cf_rows.specs.Rows.{seen, starred}
use Rattle.cf_rows.proofs.RowLemmas.{seen_groups}
use Rattle.cf_rows.proofs.units.put_in_order.Goals as goal

pub loop-group-preserved : goal.loop-group-preserved
loop-group-preserved c =
    seen_groups c.deref-group-items.result.now c.loop-group.group-index c.loop-group.ordered.items _ c.group-item.result c.loop-group-test.true c.group-item.is c.loop-group.invariant
    c.in_ok-append_to.ensures

pub returns : goal.returns
returns c =
    c.in_ok-push_starred-2.ensures
    ∙ ap (λ (is : List Instance). is ++ starred (seen c.args.own.now))
    (c.loop-group.invariant ∙ ap (flat_map seen) (take_all c.loop-group.group-index c.deref-group-items.result.now c.loop-group-test.false ∙ c.deref-group-items.ensures.value) ∙ c.in_ok-groups.ensures)
