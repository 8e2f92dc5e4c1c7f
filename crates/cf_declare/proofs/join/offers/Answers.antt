use Rattle.std.proofs.Common.{◌∙◌, length, ap, arith}
use Rattle.attr_graph.proofs.GraphLaws.{graph_offers}
use Rattle.cf_declare.proofs.JoinLemmas.{offers_past}
use Rattle.cf_declare.proofs.join.offers.Goals as goal

pub returns-then-device-devices : goal.returns-then-device-devices
returns-then-device-devices c = offers_past c.args.declared.now.attrs c.args.declared.now.devices c.args.device c.args.attr (omega (arith, ap length c.devices.ensures))

pub returns : goal.returns
returns c = c.offers.ensures ∙ graph_offers c.args.declared.now c.args.graph.now c.requires c.args.device c.args.attr
