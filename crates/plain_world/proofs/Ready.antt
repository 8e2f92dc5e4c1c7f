-- What a kept world gives to the functions that read and change it.
use Rattle.std.proofs.Common.{◌≡◌, ◌≤◌, ℕ, length, arith}
use Rattle.run_rules.specs.declared.deed.Deed.{Deed}
use Rattle.run_rules.specs.declared.deed.Choice.TheVariants.{Does}
use Rattle.run_rules.specs.declared.world.Setup.{Setup}
use Rattle.run_rules.specs.Next.{next}
use Rattle.run_sound.specs.Kept.{Kept, MayRun}
use Rattle.run_sound.proofs.Callers.{doing_there}
use Rattle.run_sound.proofs.ScriptLaws.{over_low}
use Rattle.plain_world.specs.declared.world.Plain.{Plain}
use Rattle.plain_world.specs.Plain.{HasCaller, IsReady, world_of}

pub few_devices : (s : Setup) (p : Plain) → MayRun s → Kept (world_of s p) → length p.live.devices ≤ 1024
few_devices s p may kept = omega (arith, kept.ranges.devices.few, may.machine.few_spots)

pub ready : (s : Setup) (p : Plain) → MayRun s → Kept (world_of s p) → IsReady p
ready s p may kept = record { few = few_devices s p may kept; low = λ k. over_low (world_of s p) may kept k }

-- who does something is a caller of few commands
pub has_caller : (s : Setup) (p : Plain) (k : ℕ) (d : Deed) → MayRun s → Kept (world_of s p) → next (world_of s p) k ≡ Does d → HasCaller p k 500
has_caller s p k d may kept chosen = record { there = doing_there (world_of s p) k d chosen; low = over_low (world_of s p) may kept k }
