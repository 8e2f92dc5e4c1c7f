use Rattle.std.proofs.Common.{◌≡◌, ◌≤◌, ℕ, ◌+◌, max, nat_cmp, sym, ◌∙◌, arith}
use Rattle.std.specs.Ordering.{ord_max}
use Rattle.std.proofs.lemmas.Bool.Decides.{nat_tests}
use Rattle.cf_rows.proofs.RowLemmas.{small_unit, first_some, first_none}
use Rattle.cf_rows.proofs.units.first_unit.Goals as goal
use Rattle.cf_rows.proofs.units.first_unit.Goals.{in-Some, in_default}

greater : (a b : ℕ) → ord_max nat_cmp a b ≡ max a b
greater a b = grind (arith, nat_tests)

pub overflow_add-unit : goal.overflow_add-unit
overflow_add-unit c =
    let small : c.in-Some.unit ≤ 65535 = small_unit c.args.own.now c.loop-instance.instance-index c.instance-item.result c.in-Some.unit c.requires c.loop-instance-test.true c.instance-item.is (sym c.own_unit.ensures ∙ c.in-Some.is) in
    omega arith

pub loop-instance-preserved : goal.loop-instance-preserved
loop-instance-preserved c =
    elim c.match-own_unit.branch [
      | in-Some w ↦ w.first-is ∙ w.max-first.ensures ∙ greater c.loop-instance.first (w.in-Some.unit + 1)
          ∙ first_some c.args.own.now c.loop-instance.instance-index c.instance-item.result w.in-Some.unit c.loop-instance.first c.loop-instance-test.true c.instance-item.is (sym c.own_unit.ensures ∙ w.in-Some.is) c.loop-instance.invariant
      | in_default w ↦ w.first-is
          ∙ first_none c.args.own.now c.loop-instance.instance-index c.instance-item.result c.loop-instance.first c.loop-instance-test.true c.instance-item.is (sym c.own_unit.ensures ∙ w.in_default.is) c.loop-instance.invariant
    ]
