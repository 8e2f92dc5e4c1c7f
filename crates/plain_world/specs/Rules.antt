-- What a run goes by, as it was lent.
use Rattle.run_rules.specs.declared.world.Setup.{Setup}
use Rattle.run_rules.specs.World.{setup_of}
use Rattle.run_sound.specs.Kept.{MayRun}
use Rattle.attr_graph.specs.Graphs.{IsGraphOf, declared_by}
use Rattle.plain_world.specs.declared.rules.Rules.TheInside.{Inside}
use Rattle.run_rules.specs.Spans.{AreSpansOf}

abbrev pub setup_by : Inside → Setup
setup_by r = setup_of r.tables.now r.machine.now r.scripts.now

-- the graph is that of the tables, the stretches are those of the machine's spots, and a run may go by them
pub record AreFit (r : Inside) : Type 0 where
  pub graph : IsGraphOf (declared_by r.tables.now) r.graph.now
  pub stretches : AreSpansOf r.machine.now r.stretches.now
  pub may : MayRun (setup_by r)
