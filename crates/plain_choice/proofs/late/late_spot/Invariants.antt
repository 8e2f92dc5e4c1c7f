use Rattle.std.proofs.Common.{◌≡◌, ℕ, ◌<◌, false}
use Rattle.plain_choice.specs.Late.{is_late_below}
use Rattle.plain_world.specs.Plain.{world_of}
use Rattle.plain_choice.proofs.late.late_spot.Given as goal

-- no earlier spot is shown
abbrev pub invariant-loop-spot : goal.invariant-loop-spot
invariant-loop-spot l = (q : ℕ) → q < l.spot → is_late_below (world_of l.rules l.plain) l.device q ≡ false
