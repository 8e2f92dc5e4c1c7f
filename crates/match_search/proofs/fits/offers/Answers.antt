use Rattle.std.proofs.Common.{◌∙◌, arith, sym, ap}
use Rattle.cf_types.specs.Offers.{offers}
use Rattle.cf_types.specs.Gather.{is_in}
use Rattle.attr_graph.specs.Graphs.{declared_by}
use Rattle.attr_graph.proofs.GraphLaws.{graph_devices, graph_offers, none_offered}
use Rattle.match_search.proofs.fits.offers.Goals as goal

pub offers-requires : goal.offers-requires
offers-requires c = omega (arith, graph_devices (declared_by c.args.tables.now) c.args.graph.now c.requires.graph, c.if-device-len.true, c.len.ensures)

pub returns-then-device-len : goal.returns-then-device-len
returns-then-device-len c = c.offers.ensures ∙ graph_offers (declared_by c.args.tables.now) c.args.graph.now c.requires.graph c.args.device c.args.attr

pub returns-else-device-len : goal.returns-else-device-len
unfolding offers
returns-else-device-len c = sym (ap (is_in c.args.attr) (none_offered (declared_by c.args.tables.now) c.args.device (omega (arith, c.if-device-len.false, c.len.ensures))))
