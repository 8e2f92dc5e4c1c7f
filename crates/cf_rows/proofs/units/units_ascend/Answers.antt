use Rattle.std.proofs.Common.{◌∙◌, ◌≤◌, List, ap, sym, take, arith}
use Rattle.std.specs.Prelude.{flat_map}
use Rattle.std.specs.Borrow.{Bor}
use Rattle.std.proofs.lemmas.Bool.Decides.{nat_tests}
use Rattle.std.proofs.lemmas.List.{take_all}
use Rattle.cf_types.specs.declared.instance.Instance.{Instance}
use Rattle.cf_rows.specs.Rows.{seen, fixed, of_unit, units_of}
use Rattle.cf_rows.proofs.GroupLemmas.{none_ascend, ascending_star, ascending_unit}
use Rattle.cf_rows.proofs.RowLemmas.{seen_more, small_unit}
use Rattle.cf_rows.proofs.units.units_ascend.Goals as goal
use Rattle.cf_rows.proofs.units.units_ascend.Goals.{in-Some+else-unit-least, in_default}

pub loop-instance-init : goal.loop-instance-init
loop-instance-init c = none_ascend

pub overflow_add-least : goal.overflow_add-least
overflow_add-least c =
    let small : c.in-Some.unit ≤ 65535 = small_unit c.args.own.now c.loop-instance.instance-index c.instance-item.result c.in-Some.unit c.requires c.loop-instance-test.true c.instance-item.is (sym c.own_unit.ensures ∙ c.in-Some.is) in
    omega arith

pub loop-instance-preserved : goal.loop-instance-preserved
loop-instance-preserved c =
    let more = seen_more c.args.own.now c.loop-instance.instance-index c.instance-item.result c.loop-instance-test.true c.instance-item.is in
    elim c.match-own_unit.branch [
      | in-Some+else-unit-least w ↦ rw (more, w.least-is) (
          ascending_unit (seen (take c.loop-instance.instance-index c.args.own.now)) c.instance-item.result.now c.loop-instance.least w.in-Some.unit c.loop-instance.invariant
          (sym c.own_unit.ensures ∙ w.in-Some.is) (grind (arith, nat_tests, w.if-unit-least.false))
          )
      | in_default w ↦ rw (more, w.least-is) (
          ascending_star (seen (take c.loop-instance.instance-index c.args.own.now)) c.instance-item.result.now c.loop-instance.least c.loop-instance.invariant
          (sym c.own_unit.ensures ∙ w.in_default.is)
          )
    ]

pub returns : goal.returns
returns c = λ _.
    let all = take_all c.loop-instance.instance-index c.args.own.now c.loop-instance-test.false in
    sym (ap (λ (own : List (Bor Instance)). flat_map (of_unit (seen own)) (units_of (seen own))) all) ∙ c.loop-instance.invariant.same ∙ ap (λ (own : List (Bor Instance)). fixed (seen own)) all
