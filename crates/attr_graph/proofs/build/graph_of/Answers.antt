use Rattle.std.proofs.Common.{◌≤◌, ◌∙◌, List, length, ap, sym, subst, All}
use Rattle.cf_types.specs.declared.tables.Device.{Device}
use Rattle.cf_types.specs.Offers.{interfaces_of, named_by, nodes_of}
use Rattle.attr_graph.specs.Reach.{Shape}
use Rattle.attr_graph.proofs.BuildLemmas.{devices_offer}
use Rattle.attr_graph.proofs.build.graph_of.Goals as goal

pub push_devices-requires-clause-offered : goal.push_devices-requires-clause-offered
push_devices-requires-clause-offered c =
    let nodes = ap (λ (g : Shape). g.attrs) c.in_ok-graph.ensures ∙ ap nodes_of c.items.ensures in
    subst (λ (xs : List Device). All (λ x. length (interfaces_of c.in_ok-graph.graph.attrs (named_by x)) ≤ 64) xs) (sym c.items-2.ensures)
    (devices_offer c.args.tables.now.attrs c.args.tables.now.devices c.in_ok-graph.graph.attrs nodes c.requires.few_offered_by_device)
