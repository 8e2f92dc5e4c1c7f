-- What contracts see in the witness of an answer. All of it is this project's profile.
use Rattle.std.specs.Prelude.{ℕ, ◌&&◌, not, find, Option, Some, None}
use Rattle.std.specs.Option.{option_map_or}
use Rattle.cf_types.specs.declared.machine.Ticket.{Ticket}
use Rattle.run_rules.specs.declared.event.Event.{Event}
use Rattle.run_rules.specs.World.{World, is_held}
use Rattle.dev_board.specs.declared.answer.Answer.{Answer}
use Rattle.dev_board.specs.declared.answer.Answer.TheVariants.{Did, Stale, Stopped, Transfer}
use Rattle.dev_board.specs.declared.answer.LeaseStep.{LeaseStep}
use Rattle.dev_board.specs.declared.answer.LeaseStep.TheVariants.{Keep, Take, Give}

-- the opening world of the board, the caller, what it was answered, the event if one was appended, and what becomes of its leases
pub record Witness : Type 0 where
  pub began : World
  pub caller : ℕ
  pub answer : Answer
  pub event : Option Event
  pub lease : LeaseStep

-- the witness of an event at a place, and that of a stop
abbrev pub told_did : World → ℕ → ℕ → Event → LeaseStep → Witness
told_did began k place event lease = record { began = began; caller = k; answer = Did place; event = Some event; lease = lease }

abbrev pub told_stop : World → ℕ → ℕ → Witness
told_stop began k first = record { began = began; caller = k; answer = Stopped first; event = None; lease = Keep }

-- that of a transfer whose answer the caller waits for
abbrev pub told_transfer : World → ℕ → Ticket → Witness
told_transfer began k ticket = record { began = began; caller = k; answer = Transfer ticket; event = None; lease = Keep }

-- that of a result whose ticket is not the one that is kept
abbrev pub told_stale : World → ℕ → Option Ticket → Witness
told_stale began k held = record { began = began; caller = k; answer = Stale held; event = None; lease = Keep }

-- between two worlds: the caller holds a device that it did not hold, or holds one no longer, or neither
unfoldable pub lease_step : World → World → ℕ → LeaseStep
lease_step w v k =
    option_map_or (λ d. Take d.spot) (find (λ d. is_held v k d.serial && not (is_held w k d.serial)) w.live)
    (option_map_or (λ d. Give d.spot) (find (λ d. is_held w k d.serial && not (is_held v k d.serial)) w.live) Keep)
