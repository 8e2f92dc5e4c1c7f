use Rattle.std.proofs.Common.{◌∙◌, length, ap, sym, arith}
use Rattle.attr_graph.proofs.GraphLaws.{graph_interfaces, none_offered}
use Rattle.cf_declare.proofs.spot.interfaces_of.Goals as goal

pub returns-then-device-devices : goal.returns-then-device-devices
returns-then-device-devices c = sym (none_offered c.args.declared.now c.args.device (omega (arith, ap length c.devices.ensures)))

pub returns : goal.returns
returns c = c.interfaces.ensures ∙ graph_interfaces c.args.declared.now c.args.graph.now c.requires c.args.device
