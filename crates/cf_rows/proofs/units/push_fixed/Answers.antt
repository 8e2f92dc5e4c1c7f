use Rattle.std.proofs.Common.{◌≡◌, ap, sym, ◌∙◌}
use Rattle.std.specs.Prelude.{is_some, not}
use Rattle.config_rules.specs.Select.{same_mark}
use Rattle.cf_types.specs.declared.instance.Instance.{Instance}
use Rattle.cf_types.specs.declared.stmt.UnitMark.TheVariants.{Star}
use Rattle.cf_rows.proofs.RowLemmas.{push_passing, leave_other, fixed_test}
use Rattle.cf_rows.proofs.units.push_fixed.Goals as goal
use Rattle.cf_rows.proofs.units.push_fixed.Goals.{then-is_some+in_ok-push, else-is_some}

pub loop-instance-preserved : goal.loop-instance-preserved
loop-instance-preserved c =
    let test : not (same_mark c.instance-item.result.now.mark Star) ≡ is_some c.own_unit.result = fixed_test c.instance-item.result.now ∙ ap is_some (sym c.own_unit.ensures) in
    elim c.if-is_some.branch [
      | then-is_some+in_ok-push w ↦ rw w.ordered-is (
          push_passing (λ (i : Instance). not (same_mark i.mark Star)) c.args.own.now c.loop-instance.ordered.items _ _ c.loop-instance.instance-index c.instance-item.result c.loop-instance-test.true c.instance-item.is
          (cc (test, c.is_some.ensures, w.if-is_some.true)) c.loop-instance.invariant w.in_ok-push.ensures.items
          )
      | else-is_some w ↦ rw w.ordered-is (
          leave_other (λ (i : Instance). not (same_mark i.mark Star)) c.args.own.now c.loop-instance.ordered.items _ c.loop-instance.instance-index c.instance-item.result c.loop-instance-test.true c.instance-item.is
          (cc (test, c.is_some.ensures, w.if-is_some.false)) c.loop-instance.invariant
          )
    ]
