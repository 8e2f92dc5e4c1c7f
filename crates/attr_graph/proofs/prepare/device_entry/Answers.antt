use Rattle.std.proofs.Common.{◌≡◌, ◌≤◌, ◌∙◌, ℕ, List, [], length, refl, ap, sym, subst}
use Rattle.std.specs.Prelude.{flat_map}
use Rattle.cf_types.specs.Gather.{with_all}
use Rattle.attr_graph.specs.declared.gather.TheConstants.{MAX_INTERFACES}
use Rattle.attr_graph.specs.Reach.{reach_at}
use Rattle.attr_graph.proofs.ReachLemmas.{device_list, device_stops, lists_once}
use Rattle.attr_graph.proofs.prepare.device_entry.Goals as goal

pub returns-in-Ok-clause-entry : goal.returns-in-Ok-clause-entry
returns-in-Ok-clause-entry c =
    let list : c.from_vec.result ≡ with_all [] (flat_map (reach_at c.args.attrs.now) c.items.result.now) =
    c.from_vec.ensures ∙ c.in-Ok.ensures.gathers.0 in (
      refl,
      list ∙ ap (λ xs. with_all [] (flat_map (reach_at c.args.attrs.now) xs)) c.items.ensures
          ∙ device_list c.args.attrs.now c.args.marks.now.items c.args.names c.requires.kept c.requires.known,
      subst (λ (xs : List ℕ). length xs ≤ MAX_INTERFACES) (sym list) c.in-Ok.ensures.gathers.1,
    )

pub returns-in-Err-clause-entry : goal.returns-in-Err-clause-entry
returns-in-Err-clause-entry c =
    device_stops c.args.attrs.now c.args.names _ c.in-Err.stop
    (ap (λ xs. with_all [] (flat_map (reach_at c.args.attrs.now) xs)) c.items.ensures
    ∙ device_list c.args.attrs.now c.args.marks.now.items c.args.names c.requires.kept c.requires.known)
    c.in-Err.ensures.gathers

pub gather-requires-clause-once : goal.gather-requires-clause-once
gather-requires-clause-once c = lists_once c.args.attrs.now c.args.marks.now.items c.requires.kept
