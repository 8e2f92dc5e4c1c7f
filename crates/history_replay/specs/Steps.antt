-- What a line tells in a plain world, and what lines tell.
use Rattle.std.specs.Prelude.{◌≡◌, ◌≤◌, ◌+◌, ℕ, Bool, if◌then◌else◌, List, Option, Some, None, bytes_eq, option_map}
use Rattle.std.specs.declared.result.Result.{Result}
use Rattle.run_rules.specs.declared.deed.Choice.TheVariants.{Does}
use Rattle.run_rules.specs.declared.deed.Deed.{Deed}
use Rattle.run_rules.specs.declared.event.Act.{Act}
use Rattle.run_rules.specs.declared.event.Event.{Event}
use Rattle.run_rules.specs.declared.event.Format.{Format}
use Rattle.run_rules.specs.declared.world.Setup.{Setup}
use Rattle.run_rules.specs.Next.{next}
use Rattle.run_rules.specs.Reread.{history_lines, line_in, reread, reread_lines, step_by, told_by}
use Rattle.run_rules.specs.Lines.{line_of}
use Rattle.run_rules.specs.Run.{event_of}
use Rattle.run_rules.specs.World.{World}
use Rattle.plain_world.specs.declared.world.Plain.{Plain}
use Rattle.plain_world.specs.Plain.{world_of}
use Rattle.plain_event.specs.Told.{event_with}
use Rattle.history_replay.specs.declared.history.ReplayStop.{ReplayStop}
use Rattle.history_replay.specs.Going.{IsGoing}
use Rattle.history_replay.specs.Stops.{IsRead}

-- an event where the test has passed
abbrev pub given : Bool → Event → Option Event
given is e = if is then Some e else None

-- the event by which a caller tells an act, if a line of format 2 is that of it
abbrev pub event_as : World → ℕ → Act → List ℕ → Option Event
event_as w k a line = given (bytes_eq (line_of (event_with w k a)) line) (event_with w k a)

-- the event of a deed, if a line is that of it
abbrev pub event_in : Format → World → ℕ → Deed → List ℕ → Option Event
event_in f w k d line = given (bytes_eq (line_in f (event_of w k d)) line) (event_of w k d)

-- the event that a line tells, with the world that it leads to, or none; at most one serial more is given
pub record IsTold (s : Setup) (p q : Plain) (r : Option (Event × World)) (e : Option Event) : Type 0 where
  pub told : r ≡ option_map (λ e. (e, world_of s q)) e
  pub going : IsGoing s q
  pub next : q.live.next ≤ p.live.next + 1

-- of a caller that does this
abbrev pub TellsDeed : Setup → Format → Plain → ℕ → List ℕ → Deed → Plain → Option Event → Type 0
TellsDeed s f p k line d q e = IsTold s p q (told_by f (world_of s p) k line (Does d)) e

-- of what a caller does next
abbrev pub TellsNext : Setup → Format → Plain → ℕ → List ℕ → Plain → Option Event → Type 0
TellsNext s f p k line q e = IsTold s p q (told_by f (world_of s p) k line (next (world_of s p) k)) e

-- of what the caller that the line names does next
abbrev pub TellsStep : Setup → Format → Plain → List ℕ → Plain → Option Event → Type 0
TellsStep s f p line q e = IsTold s p q (step_by f (world_of s p) line) e

-- the events of the lines up to the next line `tree`, of which the first has this number
abbrev pub ReadsLines : Setup → Format → Plain → ℕ → List ℕ → Result (List Event) ReplayStop → Plain → Type 0
ReadsLines s f p first text r q = IsRead (reread_lines f (world_of s p) first (history_lines text)) r (world_of s q)

-- and those of a whole history
abbrev pub ReadsHistory : Setup → Plain → List ℕ → Result (List Event) ReplayStop → Plain → Type 0
ReadsHistory s p text r q = IsRead (reread (world_of s p) text) r (world_of s q)
