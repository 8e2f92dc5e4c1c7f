use Rattle.std.proofs.Common.{◌≡◌, ◌+◌, ◌≤◌, ◌∙◌, List, length, ap, sym, subst, arith}
use Rattle.std.specs.Prelude.{flat_map, if◌then◌else◌, IfSome}
use Rattle.std.proofs.lemmas.List.{length-map}
use Rattle.attr_graph.specs.declared.entry.AttrEntry.{AttrEntry}
use Rattle.attr_graph.specs.declared.gather.TheConstants.{MAX_INTERFACES}
use Rattle.attr_graph.specs.Reach.{Shape, node_of, reach_at}
use Rattle.attr_graph.proofs.ReachLemmas.{fits_by_count}
use Rattle.attr_graph.proofs.graph.Graph.fits.Goals as goal

pub returns-then-is_some-clause-fits : goal.returns-then-is_some-clause-fits
returns-then-is_some-clause-fits c =
    let attrs = c.self.inside.attrs.items in
    rw (sym c.self.view_is) (
    fits_by_count attrs c.self.inside.marks.items c.args.names.now _ c.list_count.result c.self.invariant.0
    (λ k d p. omega (arith, c.requires k d p, ap (λ (s : Shape). length s.attrs) c.self.view_is, length-map attrs node_of))
    (subst (λ (xs : List AttrEntry). IfSome c.list_count.result (λ n. (n ≡ (if c.args.own then 1 else 0) + length (flat_map (reach_at xs) c.args.names.now)) × (n ≤ MAX_INTERFACES))) c.deref.ensures.value c.list_count.ensures)
    (sym c.is_some.ensures ∙ c.if-is_some.true)
    )
