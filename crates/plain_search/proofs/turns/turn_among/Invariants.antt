use Rattle.std.proofs.Common.{◌≡◌, drop}
use Rattle.std.specs.Prelude.{find}
use Rattle.plain_search.specs.Buses.{takes, turns_among}
use Rattle.plain_search.proofs.turns.turn_among.Given as goal

-- the later places have the turn that all of them have
abbrev pub invariant-loop-number : goal.invariant-loop-number
invariant-loop-number l =
    find (takes l.seeker.rules.now l.plain l.scan) (turns_among l.seeker.rules.now l.plain l.scan.serial l.number (drop l.number l.attrs)) ≡ find (takes l.seeker.rules.now l.plain l.scan) (turns_among l.seeker.rules.now l.plain l.scan.serial 0 l.attrs)
