use Rattle.std.proofs.Common.{length}
use Rattle.plain_search.specs.Buses.{takes_below, turn_on}
use Rattle.plain_search.proofs.IndirectLaws.{IsBestTo}
use Rattle.plain_search.proofs.turns.indirect_turn.Given as goal

abbrev pub invariant-loop-spot : goal.invariant-loop-spot
invariant-loop-spot l =
    IsBestTo (takes_below l.seeker.rules.now l.plain l.scan l.parent l.bus) (turn_on l.bus) (length l.seeker.rules.now.tables.rows) l.least l.spot l.best
