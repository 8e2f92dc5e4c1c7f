use Rattle.std.proofs.Common.{◌≡◌, ◌≤◌, ◌<◌, ◌∙◌, ℕ, List, length, ap, sym, subst, All, arith}
use Rattle.std.specs.Prelude.{flat_map}
use Rattle.std.specs.Option.{option_to_list}
use Rattle.cf_types.specs.Gather.{with_all}
use Rattle.cf_types.specs.Offers.{Node}
use Rattle.attr_graph.specs.declared.gather.TheConstants.{MAX_INTERFACES}
use Rattle.attr_graph.specs.Reach.{reach_at}
use Rattle.attr_graph.proofs.ReachLemmas.{attr_list, attr_stops, lists_once}
use Rattle.attr_graph.proofs.prepare.attr_entry.Goals as goal

pub returns-in-Err-clause-entry : goal.returns-in-Err-clause-entry
returns-in-Err-clause-entry c =
    let node : Node = record { iface = c.args.iface; needs = c.args.needs.now } in
    attr_stops c.args.attrs.now node c.gather.new.marks.items _ c.in-Err.stop
    (attr_list c.args.attrs.now c.args.marks.now.items node (option_to_list c.own_number-own.result) c.requires.kept c.requires.known c.own_number-own.ensures)
    c.in-Err.ensures.gathers

pub returns-clause-entry : goal.returns-clause-entry
returns-clause-entry c =
    let node : Node = record { iface = c.args.iface; needs = c.args.needs.now } in
    let list : c.from_vec.result ≡ with_all (option_to_list c.own_number-own.result) (flat_map (reach_at c.args.attrs.now) c.args.needs.now) =
    c.from_vec.ensures ∙ c.in-Ok.ensures.gathers.0 in (
      ap (λ (needs : List ℕ). record { iface = c.args.iface; needs = needs }) c.in_ok-needs.ensures,
      list ∙ attr_list c.args.attrs.now c.args.marks.now.items node (option_to_list c.own_number-own.result) c.requires.kept c.requires.known c.own_number-own.ensures,
      subst (λ (xs : List ℕ). length xs ≤ MAX_INTERFACES) (sym list) c.in-Ok.ensures.gathers.1,
      subst (λ (xs : List ℕ). All (λ x. x < length c.gather.new.marks.items) xs) (sym c.from_vec.ensures) c.in-Ok.ensures.within,
      omega (arith, c.in_ok-make_room.ensures.ok, c.in-Ok.ensures.size),
    )

pub gather-requires-clause-once : goal.gather-requires-clause-once
gather-requires-clause-once c = lists_once c.args.attrs.now c.args.marks.now.items c.requires.kept
