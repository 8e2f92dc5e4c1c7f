use Rattle.std.proofs.Common.{◌∙◌, arith, sym}
use Rattle.attr_graph.specs.Graphs.{declared_by}
use Rattle.attr_graph.proofs.GraphLaws.{graph_devices, graph_interfaces, none_offered}
use Rattle.scan_engine.proofs.scan.offered.Goals as goal

pub interfaces-requires : goal.interfaces-requires
interfaces-requires c = omega (arith, graph_devices (declared_by c.args.tables.now) c.args.graph.now c.requires.graph, c.if-device-len.true, c.len.ensures)

pub returns-then-device-len : goal.returns-then-device-len
returns-then-device-len c = c.interfaces.ensures ∙ graph_interfaces (declared_by c.args.tables.now) c.args.graph.now c.requires.graph c.args.device

pub returns-else-device-len : goal.returns-else-device-len
returns-else-device-len c = sym (none_offered (declared_by c.args.tables.now) c.args.device (omega (arith, c.if-device-len.false, c.len.ensures)))
