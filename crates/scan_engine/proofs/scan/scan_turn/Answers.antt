use Rattle.std.proofs.Common.{◌∙◌, ap}
use Rattle.std.proofs.lemmas.List.{append-nil}
use Rattle.cf_types.specs.declared.tables.Place.TheVariants.{Root}
use Rattle.run_rules.specs.Search.{places_of, turns_of}
use Rattle.scan_engine.specs.Buses.{place_turns}
use Rattle.scan_engine.specs.Turns.{first_from}
use Rattle.scan_engine.proofs.scan.scan_turn.Goals as goal

pub returns-in-Some : goal.returns-in-Some
unfolding turns_of places_of
returns-in-Some c = rw c.in-Some.is c.turn_among.ensures

pub returns-in-Some-device : goal.returns-in-Some-device
unfolding turns_of places_of
returns-in-Some-device c = rw (c.in-None.is, c.in-Some-device.is) (rw c.offered-attrs.ensures at c.turn_among-in-Some-device.ensures)

pub returns-in-None-device : goal.returns-in-None-device
unfolding turns_of places_of
returns-in-None-device c =
    rw (c.in-None.is, c.in-None-device.is)
    (ap (λ ts. first_from ts c.args.from) (append-nil (place_turns c.args.on.now.tables.now c.args.on.now.machine.now c.args.by.attach c.args.by.children.spot (0, Root))) ∙ c.root_turn.ensures)
