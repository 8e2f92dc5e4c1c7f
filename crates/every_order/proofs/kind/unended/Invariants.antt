use Rattle.std.proofs.Common.{◌≡◌, ◌<◌, ℕ, true}
use Rattle.run_rules.specs.declared.world.Setup.{Setup}
use Rattle.run_rules.specs.World.{has_ended}
use Rattle.plain_world.specs.Plain.{world_of}
use Rattle.every_order.proofs.kind.unended.Given as goal

abbrev pub invariant-loop-caller : goal.invariant-loop-caller
invariant-loop-caller l = (s : Setup) (k : ℕ) → k < l.caller → has_ended (world_of s l.plain) k ≡ true
