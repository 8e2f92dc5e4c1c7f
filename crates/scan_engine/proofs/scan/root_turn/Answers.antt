use Rattle.std.proofs.Common.{arith, length}
use Rattle.cf_types.specs.declared.tables.Place.TheVariants.{Root}
use Rattle.run_rules.specs.Search.{is_bus_indirect}
use Rattle.scan_engine.proofs.BusLaws.{bus_before}
use Rattle.scan_engine.proofs.scan.root_turn.Goals as goal

pub returns-then-from-gt0 : goal.returns-then-from-gt0
returns-then-from-gt0 c =
    bus_before c.args.on.now.machine.now (length c.args.on.now.tables.now.rows) (is_bus_indirect c.args.on.now.machine.now c.args.by.attach Root) c.args.by.children.spot (0, Root) c.args.from (omega arith)
