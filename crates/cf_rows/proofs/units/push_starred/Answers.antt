use Rattle.std.proofs.Common.{◌≡◌, ap, sym, ◌∙◌}
use Rattle.std.specs.Prelude.{is_none, not}
use Rattle.config_rules.specs.Select.{same_mark}
use Rattle.cf_types.specs.declared.instance.Instance.{Instance}
use Rattle.cf_types.specs.declared.stmt.UnitMark.TheVariants.{Star}
use Rattle.cf_rows.proofs.RowLemmas.{push_passing, leave_other, star_test}
use Rattle.cf_rows.proofs.units.push_starred.Goals as goal
use Rattle.cf_rows.proofs.units.push_starred.Goals.{then-is_none+in_ok-push, else-is_none}

pub loop-instance-preserved : goal.loop-instance-preserved
loop-instance-preserved c =
    let test : same_mark c.instance-item.result.now.mark Star ≡ is_none c.own_unit.result = star_test c.instance-item.result.now ∙ ap is_none (sym c.own_unit.ensures) in
    elim c.if-is_none.branch [
      | then-is_none+in_ok-push w ↦ rw w.ordered-is (
          push_passing (λ (i : Instance). same_mark i.mark Star) c.args.own.now c.loop-instance.ordered.items _ _ c.loop-instance.instance-index c.instance-item.result c.loop-instance-test.true c.instance-item.is
          (test ∙ ap not c.is_none.ensures ∙ ap (λ b. not (not b)) w.if-is_none.true) c.loop-instance.invariant w.in_ok-push.ensures.items
          )
      | else-is_none w ↦ rw w.ordered-is (
          leave_other (λ (i : Instance). same_mark i.mark Star) c.args.own.now c.loop-instance.ordered.items _ c.loop-instance.instance-index c.instance-item.result c.loop-instance-test.true c.instance-item.is
          (test ∙ ap not c.is_none.ensures ∙ ap (λ b. not (not b)) w.if-is_none.false) c.loop-instance.invariant
          )
    ]
