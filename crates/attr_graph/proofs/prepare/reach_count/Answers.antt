use Rattle.std.proofs.Common.{◌≡◌, ◌≤◌, ◌<◌, ◌∙◌, ℕ, List, [], length, ap, sym, subst}
use Rattle.std.specs.Prelude.{flat_map}
use Rattle.cf_types.specs.Gather.{with_all}
use Rattle.cf_types.specs.Offers.{interfaces_of}
use Rattle.attr_graph.specs.declared.gather.TheConstants.{MAX_INTERFACES}
use Rattle.attr_graph.specs.Reach.{nodes_of, reach_at}
use Rattle.attr_graph.proofs.ReachLemmas.{device_list, lists_once}
use Rattle.attr_graph.proofs.prepare.reach_count.Goals as goal

pub returns-in-Ok-clause-counted : goal.returns-in-Ok-clause-counted
returns-in-Ok-clause-counted c =
    let list : with_all [] (flat_map (reach_at c.args.attrs.now) c.args.names.now) ≡ interfaces_of (nodes_of c.args.attrs.now) c.args.names.now =
    device_list c.args.attrs.now c.args.marks.now.items c.args.names.now c.requires.kept c.requires.known in
    let size : c.len-count.result ≡ length (with_all [] (flat_map (reach_at c.args.attrs.now) c.args.names.now)) =
    c.len-count.ensures ∙ ap length (c.from_vec-list.ensures ∙ c.in-Ok.ensures.gathers.0) in
    (size ∙ ap length list, subst (λ (n : ℕ). n ≤ MAX_INTERFACES) (sym size) c.in-Ok.ensures.gathers.1)

pub returns-in-Err-TooMany-clause-counted : goal.returns-in-Err-TooMany-clause-counted
returns-in-Err-TooMany-clause-counted c =
    let list : with_all [] (flat_map (reach_at c.args.attrs.now) c.args.names.now) ≡ interfaces_of (nodes_of c.args.attrs.now) c.args.names.now =
    device_list c.args.attrs.now c.args.marks.now.items c.args.names.now c.requires.kept c.requires.known in
    subst (λ (xs : List ℕ). MAX_INTERFACES < length xs) list (rw c.in-Err-TooMany.field-0-is at c.in-Err-TooMany.ensures.gathers)

pub gather-requires-clause-once : goal.gather-requires-clause-once
gather-requires-clause-once c = lists_once c.args.attrs.now c.args.marks.now.items c.requires.kept
