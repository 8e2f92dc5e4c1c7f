use Rattle.std.proofs.Common.{◌∙◌, length}
use Rattle.run_rules.specs.Search.{is_bus_indirect}
use Rattle.scan_engine.proofs.BusLaws.{bus_from}
use Rattle.scan_engine.proofs.scan.place_turn.Goals as goal

pub returns : goal.returns
returns c =
    bus_from c.args.on.now.machine.now (length c.args.on.now.tables.now.rows) (is_bus_indirect c.args.on.now.machine.now c.args.by.attach c.args.place) c.args.by.children.spot (c.args.attr, c.args.place) c.args.from c.requires.late
    ∙ (rw (c.begin.ensures, c.is_indirect.ensures c.args.on.now.machine.now c.requires.fit.styles, c.len.ensures) at c.bus_turn.ensures)
