use Rattle.std.proofs.Common.{◌≡◌, ◌<◌, ◌∙◌, ℕ, List, length, get_or, ap, sym, subst, All}
use Rattle.attr_graph.specs.declared.entry.AttrEntry.{AttrEntry}
use Rattle.attr_graph.specs.Reach.{reach_at}
use Rattle.attr_graph.proofs.ReachLemmas.{reach_step, reach_read}
use Rattle.attr_graph.proofs.merge.add_reach.Goals as goal

pub loop-name-preserved : goal.loop-name-preserved
loop-name-preserved c = record {
  size = c.add_all.ensures.size ∙ c.loop-name.invariant.size;
  marked = c.add_all.ensures.marked;
  gathered = reach_step (reach_at c.args.attrs.now) _ c.args.names.now _ _ c.items.result.now c.loop-name.name-index c.loop-name-test.true
      (c.items.ensures ∙ ap (λ (e : AttrEntry). e.reach) (sym c.index-attrs-name.is) ∙ reach_read c.args.attrs.now _ c.index-attrs-name.result (c.requires.named c.loop-name.name-index 0 c.loop-name-test.true) c.index-attrs-name.is)
      c.in_ok-add_all.ensures.ok c.loop-name.invariant.gathered;
}

pub add_all-requires-clause-within : goal.add_all-requires-clause-within
add_all-requires-clause-within c =
    let a = get_or c.args.names.now c.loop-name.name-index 0 in
    let list : c.items.result.now ≡ reach_at c.args.attrs.now a =
    c.items.ensures ∙ ap (λ (e : AttrEntry). e.reach) (sym c.index-attrs-name.is) ∙ reach_read c.args.attrs.now _ c.index-attrs-name.result (c.requires.named c.loop-name.name-index 0 c.loop-name-test.true) c.index-attrs-name.is in
    let size = c.loop-name.invariant.size in
    subst (λ (n : ℕ). All (λ x. x < n) c.items.result.now) (sym size) (subst (λ (xs : List ℕ). All (λ x. x < length c.args.marks.now.items) xs) (sym list) (c.requires.within a))
