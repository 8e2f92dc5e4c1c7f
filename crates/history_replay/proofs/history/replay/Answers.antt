use Rattle.std.proofs.Common.{subst, sym}
use Rattle.run_rules.specs.Spans.{AreSpansOf}
use Rattle.run_rules.specs.World.{setup_of}
use Rattle.history_replay.proofs.Told.{may_replay, reliable_tree}
use Rattle.history_replay.proofs.history.replay.Goals as goal

pub invariant_of-rules : goal.invariant_of-rules
invariant_of-rules c = record {
  graph = c.in-Ok.ensures;
  stretches = subst (AreSpansOf c.args.machine.now) (sym c.deref.ensures.value) c.in-Ok-stretches_of.ensures;
  may = may_replay c.args.tables.now c.args.machine.now c.args.scripts.now c.requires.tables c.requires.machine c.requires.few_scripts c.requires.scripts;
}

pub returns-in-Ok-reread_under-clause-reliable : goal.returns-in-Ok-reread_under-clause-reliable
returns-in-Ok-reread_under-clause-reliable c =
    reliable_tree (setup_of c.args.tables.now c.args.machine.now c.args.scripts.now) c.args.text.now c.in-Ok-reread_under.replayed
    (may_replay c.args.tables.now c.args.machine.now c.args.scripts.now c.requires.tables c.requires.machine c.requires.few_scripts c.requires.scripts) c.in-Ok-reread_under.ensures
