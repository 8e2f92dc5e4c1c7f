-- A plain world goes on from the opening world, with each step.
use Rattle.std.proofs.Common.{◌≡◌, ◌≤◌, ◌+◌, ℕ, sym, subst, arith}
use Rattle.run_rules.specs.declared.deed.Deed.{Deed}
use Rattle.run_rules.specs.declared.deed.Choice.TheVariants.{Does}
use Rattle.run_rules.specs.declared.world.Setup.{Setup}
use Rattle.run_rules.specs.After.{after}
use Rattle.run_rules.specs.Next.{next}
use Rattle.run_rules.specs.World.{opening}
use Rattle.run_sound.specs.Calls.{CallsDevices}
use Rattle.run_sound.specs.Kept.{MayRun}
use Rattle.run_sound.proofs.Calls.{calls_after, calls_first}
use Rattle.plain_world.specs.declared.world.Plain.{Plain}
use Rattle.plain_world.specs.Plain.{world_of}
use Rattle.plain_world.proofs.Going.{kept_first, kept_then, next_grows}
use Rattle.history_replay.specs.Going.{GoesOn, IsDue, IsGoing}

going_on : (s : Setup) (p q : Plain) (k : ℕ) (d : Deed) → MayRun s → IsGoing s p → next (world_of s p) k ≡ Does d → world_of s q ≡ after (world_of s p) k d → IsGoing s q
going_on s p q k d may going chosen same = record {
  kept = kept_then s p q k d may going.kept chosen same;
  calls = subst CallsDevices (sym same) (calls_after (world_of s p) k d going.kept.ranges.counted going.calls);
}

pub goes_on : (s : Setup) (p : Plain) (k : ℕ) (d : Deed) (q : Plain) → MayRun s → IsGoing s p → IsDue s p k d → world_of s q ≡ after (world_of s p) k d → GoesOn s p k d q
goes_on s p k d q may going due same = record { world = same; going = going_on s p q k d may going due.chosen same; next = next_grows s p q k d same }

pub going_first : (s : Setup) (p : Plain) → MayRun s → world_of s p ≡ opening s → IsGoing s p
going_first s p may same = record { kept = kept_first s p may same; calls = subst CallsDevices (sym same) (calls_first s) }

pub no_more : (n : ℕ) → n ≤ n + 1
no_more n = omega arith
