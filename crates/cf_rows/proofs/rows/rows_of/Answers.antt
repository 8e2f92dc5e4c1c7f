use Rattle.std.proofs.Common.{◌≡◌, ◌<◌, ◌==◌, ap, ◌∙◌, ℕ, List, Option, None, [], length, get_or, arith}
use Rattle.std.specs.Option.{unwrap_or}
use Rattle.std.specs.Prelude.{filter, flat_map}
use Rattle.std.specs.Borrow.{Bor}
use Rattle.std.proofs.lemmas.List.{get_or_default}
use Rattle.cf_types.specs.declared.instance.Instance.{Instance}
use Rattle.config_rules.specs.Meaning.{rows_of, device_rows}
use Rattle.cf_types.specs.Numbers.{below}
use Rattle.cf_rows.specs.Rows.{seen}
use Rattle.cf_rows.proofs.RowLemmas.{rows_more, own_units}
use Rattle.cf_rows.proofs.rows.rows_of.Goals as goal

pub loop-group-preserved : goal.loop-group-preserved
loop-group-preserved c =
    let size : c.loop-group.group-index < c.args.devices = omega (arith, ap length c.deref-group-items.ensures.value, c.in_ok-groups.ensures.size) in
    let own : seen c.deref.result.now ≡ filter (λ i. i.joined.device == c.loop-group.group-index) (seen c.args.instances.now) =
    ap seen (c.deref.ensures.value ∙ c.in_ok-put_own.ensures ∙ ap (λ (o : Option (List (Bor Instance))). unwrap_or o []) (c.group-item.is ∙ get_or_default c.deref-group-items.result.now c.loop-group.group-index _ None c.loop-group-test.true ∙ ap (λ (xs : List (Option (List (Bor Instance)))). get_or xs c.loop-group.group-index None) c.deref-group-items.ensures.value))
    ∙ c.in_ok-groups.ensures.own c.loop-group.group-index size in
    rows_more (seen c.args.instances.now) c.loop-group.group-index c.deref.result.now c.loop-group.rows _ c.loop-group.invariant own c.in_ok-push_device.ensures

pub push_device-requires : goal.push_device-requires
push_device-requires c =
    let size : c.loop-group.group-index < c.args.devices = omega (arith, ap length c.deref-group-items.ensures.value, c.in_ok-groups.ensures.size) in
    let own : seen c.deref.result.now ≡ filter (λ i. i.joined.device == c.loop-group.group-index) (seen c.args.instances.now) =
    ap seen (c.deref.ensures.value ∙ c.in_ok-put_own.ensures ∙ ap (λ (o : Option (List (Bor Instance))). unwrap_or o []) (c.group-item.is ∙ get_or_default c.deref-group-items.result.now c.loop-group.group-index _ None c.loop-group-test.true ∙ ap (λ (xs : List (Option (List (Bor Instance)))). get_or xs c.loop-group.group-index None) c.deref-group-items.ensures.value))
    ∙ c.in_ok-groups.ensures.own c.loop-group.group-index size in
    own_units (seen c.args.instances.now) c.deref.result.now c.loop-group.group-index c.requires own

pub returns : goal.returns
unfolding rows_of
returns c =
    let all : c.loop-group.group-index ≡ c.args.devices = omega (arith, ap length c.deref-group-items.ensures.value, c.in_ok-groups.ensures.size) in
    c.loop-group.invariant ∙ ap (λ (n : ℕ). flat_map (device_rows (seen c.args.instances.now)) (below n)) all
