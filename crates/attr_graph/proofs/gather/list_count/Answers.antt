use Rattle.std.proofs.Common.{◌+◌, ℕ, length, ap, sym, ◌∙◌, rules}
use Rattle.attr_graph.specs.declared.entry.AttrEntry.{AttrEntry}
use Rattle.attr_graph.specs.Reach.{reach_at}
use Rattle.attr_graph.proofs.ReachLemmas.{count_step, reach_read}
use Rattle.attr_graph.proofs.gather.list_count.Goals as goal

pub loop-name-preserved : goal.loop-name-preserved
loop-name-preserved c = record {
  few = search rules;
  counted = count_step (reach_at c.args.attrs.now) c.args.names.now c.index-attrs-name.result.reach c.loop-name.name-index c.loop-name.count _ _ c.loop-name-test.true
      (reach_read c.args.attrs.now _ c.index-attrs-name.result (c.requires c.loop-name.name-index 0 c.loop-name-test.true) c.index-attrs-name.is)
      (ap (λ (n : ℕ). c.loop-name.count + n) (c.len-more.ensures ∙ ap (λ (e : AttrEntry). length e.reach) (sym c.index-attrs-name.is)))
      c.loop-name.invariant.counted;
}
