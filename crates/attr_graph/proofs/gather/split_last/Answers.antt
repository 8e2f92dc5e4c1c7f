use Rattle.std.proofs.Common.{◌∙◌, ◌-◌, ap, length, sym, arith}
use Rattle.attr_graph.specs.declared.entry.AttrEntry.{AttrEntry}
use Rattle.attr_graph.proofs.ReachLemmas.{reach_read, split_at_last}
use Rattle.attr_graph.proofs.gather.split_last.Goals as goal

pub returns-in-len1-up : goal.returns-in-len1-up
returns-in-len1-up c =
    split_at_last c.args.attrs.now c.args.names.now c.items.result.now c.in-len1-up.len_at_least c.requires
    (c.items.ensures ∙ ap (λ (e : AttrEntry). e.reach) (sym c.index-attrs-last.is) ∙ reach_read c.args.attrs.now _ c.index-attrs-last.result (c.requires (length c.args.names.now - 1) 0 (omega (arith, c.in-len1-up.len_at_least))) c.index-attrs-last.is)
