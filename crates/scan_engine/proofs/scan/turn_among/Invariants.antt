use Rattle.std.proofs.Common.{◌≡◌, ℕ, ◌<◌, None, slice_index_or}
use Rattle.cf_types.specs.declared.tables.Place.TheVariants.{At}
use Rattle.scan_engine.specs.Buses.{place_turns}
use Rattle.scan_engine.specs.Turns.{first_from}
use Rattle.scan_engine.proofs.scan.turn_among.Given as goal

abbrev pub invariant-loop-attr : goal.invariant-loop-attr
invariant-loop-attr l = (k : ℕ) → k < l.attr → first_from (place_turns l.on.tables.now l.on.machine.now l.by.attach l.by.children.spot (k, At (slice_index_or l.attrs k 0))) l.from ≡ None
