-- Every run ends: each event lowers what is left of it, so no run has more events than a number, and each can be gone on with to its end.
use Rattle.std.specs.Prelude.{◌≡◌, ◌<◌, ◌≤◌, ℕ, zero, suc, ◌+◌, ◌*◌, List, [], ◌++◌, length, sum_by}
use Rattle.cf_types.specs.Numbers.{below}
use Rattle.run_rules.specs.declared.event.Event.{Event}
use Rattle.run_rules.specs.declared.world.Setup.{Setup}
use Rattle.run_rules.specs.declared.deed.Deed.{Deed}
use Rattle.run_rules.specs.declared.deed.Choice.TheVariants.{Does}
use Rattle.run_rules.specs.World.{World, opening}
use Rattle.run_rules.specs.Next.{next}
use Rattle.run_rules.specs.After.{after}
use Rattle.run_rules.specs.Run.{Run, played}
use Rattle.run_sound.specs.Kept.{Kept, MayRun}
use Rattle.run_sound.specs.Left.{spot_worth, whole_scan}
use Rattle.progress_laws.specs.Ahead.{command_worth, run_left}
use Rattle.progress_laws.specs.Still.{NobodyDoes}

-- in a world as runs come to, whatever a caller does next lowers what is left
abbrev pub EachLowers : Type 0
EachLowers = (w : World) (k : ℕ) (d : Deed) → MayRun w.setup → Kept w → next w k ≡ Does d → run_left (after w k d) < run_left w

-- how many commands the scripts have
abbrev pub commands_of : Setup → ℕ
commands_of s = sum_by length s.scripts

-- so many events at most has a run on n spots
abbrev pub events_on : ℕ → Setup → ℕ
events_on n s =
    command_worth n * (commands_of s + length s.scripts + 1) + 2 * (whole_scan n + spot_worth n * n + n * n + 1) + commands_of s

-- and one of these tables, this machine and these scripts
abbrev pub most_events : Setup → ℕ
most_events s = events_on (length s.machine.spots) s

-- a history is no longer than that
abbrev pub EndsInTime : List Event → World → Type 0
EndsInTime h w = length h ≤ most_events w.setup

-- more events lead to a world in which no caller does anything
pub record Rests (w : World) : Type 0 where
  pub more : List Event
  pub last : World
  pub run : Run w more last
  pub still : NobodyDoes last

abbrev pub ComesToRest : List Event → World → Type 0
ComesToRest h w = Rests w

-- ---- turns in rounds

-- so many rounds of these turns
abbrev pub rounds : ℕ → List ℕ → List ℕ
rounds zero ks = []
rounds (suc n) ks = ks ++ rounds n ks

-- the one that boots, and then the callers of the scripts
abbrev pub all_callers : Setup → List ℕ
all_callers s = below (suc (length s.scripts))

-- where all callers take turns in rounds, after as many rounds as a run may have events no caller does anything
abbrev pub RoundsEnd : Type 0
RoundsEnd = (s : Setup) → MayRun s → NobodyDoes (played (opening s) (rounds (most_events s) (all_callers s))).1
