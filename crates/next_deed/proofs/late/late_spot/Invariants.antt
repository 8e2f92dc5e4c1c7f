use Rattle.std.proofs.Common.{◌≡◌, ℕ, ◌<◌, false}
use Rattle.run_world.specs.Late.{late_test}
use Rattle.next_deed.proofs.late.late_spot.Given as goal

abbrev pub invariant-loop-spot : goal.invariant-loop-spot
invariant-loop-spot l = (q : ℕ) → q < l.spot → late_test l.going.setup l.going.absent l.going.hidden l.device q ≡ false
