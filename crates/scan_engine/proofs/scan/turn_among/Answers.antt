use Rattle.std.proofs.Common.{arith, length, slice_index_or, not}
use Rattle.cf_types.specs.declared.tables.Place.TheVariants.{At}
use Rattle.run_rules.specs.Search.{is_before, is_bus_indirect}
use Rattle.scan_engine.specs.Buses.{place_turns}
use Rattle.scan_engine.proofs.BusLaws.{bus_before, places_is, places_none}
use Rattle.scan_engine.proofs.scan.turn_among.Goals as goal

pub loop-attr-init : goal.loop-attr-init
loop-attr-init c = λ k lt.
    bus_before c.args.on.now.machine.now (length c.args.on.now.tables.now.rows) (is_bus_indirect c.args.on.now.machine.now c.args.by.attach (At (slice_index_or c.args.attrs.now k 0))) c.args.by.children.spot
    (k, At (slice_index_or c.args.attrs.now k 0)) c.args.from lt

pub returns-in-Some : goal.returns-in-Some
returns-in-Some c =
    places_is (λ t. not (is_before t.at c.args.from)) (place_turns c.args.on.now.tables.now c.args.on.now.machine.now c.args.by.attach c.args.by.children.spot) c.args.attrs.now c.loop-attr.attr c.in-Some.turn (omega arith)
    c.in-Some.ensures c.loop-attr.invariant

pub returns : goal.returns
returns c =
    places_none (λ t. not (is_before t.at c.args.from)) (place_turns c.args.on.now.tables.now c.args.on.now.machine.now c.args.by.attach c.args.by.children.spot) c.args.attrs.now (λ k lt. c.loop-attr.invariant k (omega arith))
