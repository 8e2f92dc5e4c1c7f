use Rattle.std.proofs.Common.{◌≡◌}
use Rattle.plain_search.specs.Open.{Follows}
use Rattle.every_order.proofs.Booting.{IsBooting}
use Rattle.every_order.proofs.boot.booted.Given as goal

abbrev pub invariant-loop-event : goal.invariant-loop-event
invariant-loop-event l = record {
  rules : l.seeker.rules.now ≡ l.fn.seeker.rules.now;
  follows : Follows l.seeker l.plain.live.devices;
  booting : IsBooting l.fn.seeker.rules.now l.plain l._event;
}
