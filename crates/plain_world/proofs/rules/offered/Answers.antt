use Rattle.std.proofs.Common.{◌≡◌, ◌∙◌, arith, sym, subst}
use Rattle.cf_types.specs.Offers.{interfaces}
use Rattle.run_rules.specs.declared.world.Setup.{Setup}
use Rattle.attr_graph.specs.Graphs.{declared_by}
use Rattle.attr_graph.proofs.GraphLaws.{graph_devices, graph_interfaces, none_offered}
use Rattle.plain_world.proofs.rules.offered.Goals as goal

pub interfaces-requires : goal.interfaces-requires
interfaces-requires c =
    omega (arith, graph_devices (declared_by c.rules.inside.tables.now) c.rules.inside.graph.now c.rules.invariant.graph, c.if-driver-len.true, c.len.ensures)

pub returns-then-driver-len : goal.returns-then-driver-len
returns-then-driver-len c =
    subst (λ (s : Setup). c.interfaces.result.now ≡ interfaces s.tables.attrs s.tables.devices c.args.driver) c.rules.view_is
    (c.interfaces.ensures ∙ graph_interfaces (declared_by c.rules.inside.tables.now) c.rules.inside.graph.now c.rules.invariant.graph c.args.driver)

pub returns-else-driver-len : goal.returns-else-driver-len
returns-else-driver-len c =
    rw (← c.rules.view_is) (sym (none_offered (declared_by c.rules.inside.tables.now) c.args.driver (omega (arith, c.if-driver-len.false, c.len.ensures))))
