use Rattle.std.proofs.Common.{◌≤◌, ◌<◌, ℕ, List, [], ◌∷◌, ◌++◌, length, ap, sym, subst, All}
use Rattle.cf_types.specs.Offers.{Node, interfaces_of, node_of}
use Rattle.attr_graph.specs.Reach.{Shape}
use Rattle.attr_graph.proofs.BuildLemmas.{node_known, node_offers}
use Rattle.attr_graph.proofs.build.graph_of_attrs.Goals as goal

pub push_attr-requires-clause-known : goal.push_attr-requires-clause-known
push_attr-requires-clause-known c =
    let nodes = ap (λ (g : Shape). g.attrs) c.loop-attr.invariant in
    subst (λ (ns : List Node). All (λ a. a < length ns) c.attr-item.result.needs) (sym nodes)
    (node_known c.args.attrs.now c.loop-attr.attr-index c.attr-item.result c.requires.earlier c.loop-attr-test.true c.attr-item.is)

pub push_attr-requires-clause-offered : goal.push_attr-requires-clause-offered
push_attr-requires-clause-offered c =
    let nodes = ap (λ (g : Shape). g.attrs) c.loop-attr.invariant in
    subst (λ (ns : List Node). length (interfaces_of (ns ++ node_of c.attr-item.result ∷ []) (length ns ∷ [])) ≤ 64) (sym nodes)
    (subst (λ (xs : List ℕ). length xs ≤ 64) (node_offers c.args.attrs.now c.loop-attr.attr-index c.attr-item.result c.requires.earlier c.loop-attr-test.true c.attr-item.is)
    (c.requires.offered c.loop-attr.attr-index))
