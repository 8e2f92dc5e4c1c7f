use Rattle.std.proofs.Common.{◌≡◌}
use Rattle.every_order.specs.Noted.{AreNoted}
use Rattle.every_order.proofs.ways.notes_of.Given as goal

abbrev pub invariant-loop-place : goal.invariant-loop-place
invariant-loop-place l = record {
  rules : l.seeker.rules.now ≡ l.fn.seeker.rules.now;
  noted : AreNoted l.fn.seeker.rules.now l.met l.place l.noted;
}
