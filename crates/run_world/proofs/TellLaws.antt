-- What is known of the caller whose event is made.
use Rattle.std.proofs.Common.{◌≡◌, ◌<◌, ◌-◌, ◌^◌, ◌+◌, ℕ, length, ap, arith}
use Rattle.std.proofs.lemmas.List.{length-map}
use Rattle.run_rules.specs.declared.world.Setup.{Setup}
use Rattle.run_rules.specs.declared.deed.Deed.{Deed}
use Rattle.run_rules.specs.declared.deed.Choice.TheVariants.{Does}
use Rattle.run_rules.specs.Next.{next}
use Rattle.std.specs.List.{slice_index_or}
use Rattle.run_rules.specs.World.{Caller, caller_at, nobody}
use Rattle.run_sound.specs.Kept.{Kept, MayRun}
use Rattle.run_sound.proofs.Callers.{doing_there}
use Rattle.run_sound.proofs.ScriptLaws.{over_low}
use Rattle.run_world.specs.declared.caller.CallerState.{CallerState}
use Rattle.run_world.specs.declared.parts.Core.{Core}
use Rattle.run_world.specs.Arrivals.{state_at}
use Rattle.run_world.specs.View.{caller_of, world_of}
use Rattle.run_world.proofs.CallerLaws.{at_is, state_is}

-- it is one of the callers
pub doer_there : (s : Setup) (core : Core) (k : ℕ) (d : Deed) → next (world_of s core) k ≡ Does d → k < length core.callers.items
doer_there s core k d chosen = omega (arith, doing_there (world_of s core) k d chosen, length-map core.callers.items caller_of)

-- few of its commands are over
pub few_over : (s : Setup) (core : Core) (k : ℕ) → MayRun s → Kept (world_of s core) → (state_at core.callers.items k).over < 2 ^ 32 - 1
few_over s core k may kept =
    let same : (state_at core.callers.items k).over ≡ (caller_at (world_of s core) k).over = ap (λ (c : Caller). c.over) (state_is core.callers.items k) in
    omega (arith, same, over_low (world_of s core) may kept k)

-- there are few devices
pub few_live : (s : Setup) (core : Core) → MayRun s → Kept (world_of s core) → length core.tree.live + 1 < 2 ^ 32
few_live s core may kept = omega (arith, kept.ranges.devices.few, may.machine.few_spots)

-- and of the one that stands at a place
pub low_at : (s : Setup) (core : Core) (k : ℕ) (x : CallerState) → MayRun s → Kept (world_of s core) → k < length core.callers.items → x ≡ slice_index_or core.callers.items k x → x.over < 2 ^ 32 - 1
low_at s core k x may kept there is =
    let same : x.over ≡ (caller_at (world_of s core) k).over = ap (λ (c : Caller). c.over) (at_is caller_of core.callers.items k x nobody there is) in
    omega (arith, same, over_low (world_of s core) may kept k)
