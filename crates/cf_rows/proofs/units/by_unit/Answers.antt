use Rattle.std.proofs.Common.{ap, ◌∙◌, List, rules, take}
use Rattle.std.specs.Prelude.{flat_map, nat_eq}
use Rattle.std.specs.HashMap.{get}
use Rattle.std.specs.Borrow.{Bor}
use Rattle.std.proofs.lemmas.List.{take_all}
use Rattle.cf_types.specs.declared.instance.Instance.{Instance}
use Rattle.cf_rows.specs.Rows.{seen, of_unit, units_of}
use Rattle.cf_rows.proofs.GroupLemmas.{no_groups, add_starred, flat_groups}
use Rattle.cf_rows.proofs.RowLemmas.{more_groups}
use Rattle.cf_rows.proofs.units.by_unit.Goals as goal
use Rattle.cf_rows.proofs.units.by_unit.Goals.{in-Some+in_ok-add, in_default}

pub loop-instance-init : goal.loop-instance-init
loop-instance-init c = rw c.new-groups.ensures.items (no_groups (get nat_eq c.new-places.result) (λ u. search rules))

pub loop-instance-preserved : goal.loop-instance-preserved
loop-instance-preserved c =
    elim c.match-own_unit.branch [
      | in-Some+in_ok-add w ↦ rw (w.groups-is, w.places-is) (
          more_groups c.args.own.now c.loop-instance.instance-index c.instance-item.result _ _ c.loop-instance-test.true c.instance-item.is
          (w.in_ok-add.ensures (seen (take c.loop-instance.instance-index c.args.own.now)) c.loop-instance.invariant)
          )
      | in_default w ↦ rw (w.groups-is, w.places-is) (
          more_groups c.args.own.now c.loop-instance.instance-index c.instance-item.result _ _ c.loop-instance-test.true c.instance-item.is
          (add_starred _ c.instance-item.result.now _ _ c.loop-instance.invariant (cc))
          )
    ]

pub add-requires-clause-within : goal.add-requires-clause-within
add-requires-clause-within c = λ u p e. (c.loop-instance.invariant.found u p e).0

pub returns : goal.returns
returns c =
    flat_groups _ c.loop-instance.groups.items (get nat_eq c.loop-instance.places) c.loop-instance.invariant
    ∙ ap (λ (own : List (Bor Instance)). flat_map (of_unit (seen own)) (units_of (seen own))) (take_all c.loop-instance.instance-index c.args.own.now c.loop-instance-test.false)
