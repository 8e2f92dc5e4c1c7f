use Rattle.std.proofs.Common.{◌≡◌, ◌∙◌, ℕ, None, List, length, get_or, slice_index_or, ap, arith}
use Rattle.live_rules.specs.declared.plan.Group.{Group}
use Rattle.live_rules.specs.Live.{group_of}
use Rattle.live_tables.specs.Joining.{joined_by}
use Rattle.live_tables.proofs.Joins.{group_among, one_group_more}
use Rattle.live_tables.proofs.driver_groups.driver_groups.Goals as goal

pub loop-number-preserved : goal.loop-number-preserved
loop-number-preserved c = λ d.
    (c.in_ok-join_all.ensures d
    ∙ ap (λ (ds : List ℕ). joined_by ds c.loop-number.number d (slice_index_or c.loop-number.table.items d None)) (c.items.ensures ∙ ap (λ (g : Group). g.devices) c.index-groups-number.is)
    ∙ ap (joined_by (get_or c.args.groups.now c.loop-number.number c.index-groups-number.result).devices c.loop-number.number d) (c.loop-number.invariant d)
    ∙ one_group_more c.args.groups.now c.loop-number.number d c.index-groups-number.result c.loop-number-test.true)

pub returns : goal.returns
unfolding group_of
returns c = λ d.
    (c.loop-number.invariant d
    ∙ let whole : c.loop-number.number ≡ length c.args.groups.now = omega (arith, c.loop-number-test.false, c.loop-number.auto.number-end) in
    ap (λ (n : ℕ). group_among c.args.groups.now n d) whole)
