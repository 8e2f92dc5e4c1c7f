use Rattle.std.proofs.Common.{subst, sym}
use Rattle.run_rules.specs.Spans.{AreSpansOf}
use Rattle.run_rules.specs.World.{setup_of}
use Rattle.history_replay.proofs.Told.{lawful_told, may_replay, tree_tells}
use Rattle.history_replay.proofs.history.reread.Goals as goal

pub invariant_of-rules : goal.invariant_of-rules
invariant_of-rules c = rw c.tables.ensures (record {
  graph = c.graph.ensures;
  stretches = subst (AreSpansOf c.args.machine.now) (sym c.deref.ensures.value) c.in-Ok.ensures;
  may = may_replay c.args.tables.now c.args.machine.now c.args.scripts.now c.requires.tables c.requires.machine c.requires.few_scripts c.requires.scripts;
})

pub returns-clause-rereads : goal.returns-clause-rereads
returns-clause-rereads c = rw c.tables.ensures at c.reread_under.ensures

pub returns-clause-lawful : goal.returns-clause-lawful
returns-clause-lawful c =
    lawful_told (setup_of c.args.tables.now c.args.machine.now c.args.scripts.now) c.args.text.now c.reread_under.result
    (may_replay c.args.tables.now c.args.machine.now c.args.scripts.now c.requires.tables c.requires.machine c.requires.few_scripts c.requires.scripts)
    (rw c.tables.ensures at c.reread_under.ensures)

pub returns-clause-tree : goal.returns-clause-tree
returns-clause-tree c =
    tree_tells (setup_of c.args.tables.now c.args.machine.now c.args.scripts.now) c.args.text.now c.reread_under.result
    (may_replay c.args.tables.now c.args.machine.now c.args.scripts.now c.requires.tables c.requires.machine c.requires.few_scripts c.requires.scripts)
    (rw c.tables.ensures at c.reread_under.ensures)
