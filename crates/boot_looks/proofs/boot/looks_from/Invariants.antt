use Rattle.std.proofs.Common.{◌≡◌}
use Rattle.plain_search.specs.Open.{Follows}
use Rattle.boot_looks.proofs.Looking.{AreLooking}
use Rattle.boot_looks.proofs.boot.looks_from.Given as goal

abbrev pub invariant-loop-turn : goal.invariant-loop-turn
invariant-loop-turn l = record {
  rules : l.seeker.rules.now ≡ l.fn.seeker.rules.now;
  follows : Follows l.seeker l.plain.live.devices;
  looking : AreLooking l.fn.seeker.rules.now l.plain l.looks.items l._turn;
}
