use Rattle.std.proofs.Common.{subst, sym}
use Rattle.run_rules.specs.Spans.{AreSpansOf}
use Rattle.every_order.proofs.May.{may_run}
use Rattle.every_order.proofs.every.every_order.Goals as goal

pub invariant_of-rules : goal.invariant_of-rules
invariant_of-rules c = rw c.tables.ensures (record {
  graph = c.graph.ensures;
  stretches = subst (AreSpansOf c.args.machine.now) (sym c.deref.ensures.value) c.in_ok-stretches.ensures;
  may = may_run c.args.tables.now c.args.machine.now c.args.scripts.now c.requires.tables c.requires.machine c.requires.few_scripts c.requires.scripts;
})

pub returns : goal.returns
returns c = rw c.tables.ensures at c.every_under.ensures
