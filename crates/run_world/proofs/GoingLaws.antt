-- What is known of a run between two of its events.
use Rattle.std.proofs.Common.{◌≡◌, ◌≤◌, ◌<◌, ℕ, Bool, List, length, find, Option, Some, None, arith}
use Rattle.std.specs.Prelude.{IfSome}
use Rattle.std.specs.List.{AllByRecursion, slice_index_or}
use Rattle.run_rules.specs.declared.world.Dev.{Dev}
use Rattle.run_rules.specs.World.{World, caller_at}
use Rattle.run_rules.proofs.Devices.{found_in}
use Rattle.run_sound.proofs.ScriptLaws.{over_low}
use Rattle.run_world.specs.Going.{GoesOn}
use Rattle.run_world.specs.declared.caller.CallerState.{CallerState}
use Rattle.run_world.specs.View.{callers_of}
use Rattle.run_world.proofs.CallerLaws.{over_is}

-- what each device has the one that is found has
pub found_has : (P : Dev → Type 0) (p : Dev → Bool) (live : List Dev) (o : Option Dev) → AllByRecursion P live → find p live ≡ o → IfSome o P
found_has P p live None all e = tt
found_has P p live (Some d) all e = found_in P p live d all e

-- few commands of a caller are over
pub over_few : (w : World) (cs : List CallerState) (k : ℕ) (x : CallerState) → GoesOn w → w.callers ≡ callers_of cs → k < length cs → x ≡ slice_index_or cs k x → x.over ≤ 500
over_few w cs k x goes same there is =
    let at : x.over ≡ (caller_at w k).over = rw same (over_is cs k x there is) in
    omega (arith, at, over_low w goes.may goes.kept k)

-- there are few devices
pub live_few : (w : World) → GoesOn w → length w.live ≤ 1024
live_few w goes = omega (arith, goes.kept.ranges.devices.few, goes.may.machine.few_spots)
