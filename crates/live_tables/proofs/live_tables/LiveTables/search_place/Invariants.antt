use Rattle.live_tables.proofs.Places.{PlaceSoFar}
use Rattle.live_tables.proofs.live_tables.LiveTables.search_place.Given as goal

abbrev pub invariant-loop-spot : goal.invariant-loop-spot
invariant-loop-spot l = PlaceSoFar l.fn.self l.self l.fn.lines.items l.lines.items l.parent l.place l.spot
