use Rattle.std.proofs.Common.{◌≡◌, ap, ◌∙◌, ◌++◌, ◌∷◌, [], ℕ, List, map}
use Rattle.std.proofs.lemmas.List.{take_all}
use Rattle.cf_types.specs.declared.instance.Instance.{Instance}
use Rattle.cf_types.specs.declared.tables.Row.{Row}
use Rattle.config_rules.specs.Meaning.{row, in_order}
use Rattle.cf_rows.specs.Rows.{seen}
use Rattle.cf_rows.proofs.RowLemmas.{row_step}
use Rattle.cf_rows.proofs.rows.push_device.Goals as goal

pub loop-instance-preserved : goal.loop-instance-preserved
loop-instance-preserved c =
    row_step (row c.first_unit-first.result) c.deref-instance-items.result.now c.loop-instance.instance-index c.instance-item.result c.args.rows.now c.loop-instance.rows _ c.loop-instance-test.true c.instance-item.is c.loop-instance.invariant
    (c.in_ok-push.ensures.ok ∙ ap (λ (r : Row). c.loop-instance.rows ++ r ∷ []) c.row.ensures)

pub returns : goal.returns
returns c =
    let ordered : seen c.deref-instance-items.result.now ≡ in_order (seen c.args.own.now) = ap seen c.deref-instance-items.ensures.value ∙ c.in_ok-put_in_order.ensures in
    c.loop-instance.invariant
    ∙ ap (λ (xs : List Instance). c.args.rows.now ++ map (row c.first_unit-first.result) xs) (ap seen (take_all c.loop-instance.instance-index c.deref-instance-items.result.now c.loop-instance-test.false) ∙ ordered)
    ∙ ap (λ (n : ℕ). c.args.rows.now ++ map (row n) (in_order (seen c.args.own.now))) c.first_unit-first.ensures
