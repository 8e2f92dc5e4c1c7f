-- What a step of a board does, by its answer.
use Rattle.std.specs.Prelude.{◌≡◌, ⊤, ℕ, length, [], ◌∷◌, ◌++◌, true, false, List, Option, Some, None}
use Rattle.cf_types.specs.declared.machine.Ticket.{Ticket}
use Rattle.ref_ledger.specs.Slots.{Denial}
use Rattle.run_rules.specs.declared.world.Dev.{Dev}
use Rattle.run_rules.specs.declared.world.Wait.{Wait}
use Rattle.run_rules.specs.declared.world.Wait.TheVariants as wait
use Rattle.run_rules.specs.declared.deed.Deed.{Deed}
use Rattle.run_rules.specs.declared.deed.Deed.TheVariants.{Done, Free}
use Rattle.run_rules.specs.declared.deed.Choice.TheVariants.{Does, Waits}
use Rattle.run_rules.specs.declared.world.Activity.{Activity}
use Rattle.run_rules.specs.declared.world.Activity.TheVariants as activity
use Rattle.run_rules.specs.World.{World, caller_at, has_ended}
use Rattle.run_rules.specs.Next.{next}
use Rattle.run_rules.specs.After.{after}
use Rattle.run_rules.specs.Run.{event_of}
use Rattle.dev_board.specs.Witness.{Witness, told_did, told_stop, told_transfer, lease_step}
use Rattle.deed_effect.specs.SlotDeeds.{WaitsForLeases}
use Rattle.dev_board.specs.Shown.{Shown, began}
use Rattle.dev_board.specs.declared.stepped.Stepped.{Stepped}
use Rattle.dev_board.specs.declared.stepped.Stepped.TheVariants as stepped

-- caller k did the one thing that it may do next: its event was appended at the place, the world is the one after it, and the witness tells so
pub record DoesNext (old : Shown) (k place : ℕ) (witness : Witness) (new : Shown) : Type 0 where
  pub deed : Deed
  pub chosen : next old.world k ≡ Does deed
  pub last : place ≡ length old.events
  pub board : new ≡ record old { world = after old.world k deed; events = old.events ++ event_of old.world k deed ∷ [] }
  pub told : witness ≡ told_did (began old) k place (event_of old.world k deed) (lease_step old.world new.world k)

-- the caller waits for this; for those who hold a slot, where it would free the device
abbrev pub WaitIs : World → ℕ → Wait → Type 0
WaitIs w k (wait.Leases of mask) = next w k ≡ Does (Free of)
WaitIs w k why = next w k ≡ Waits why

-- the transfer that a caller is in the middle of
abbrev pub ticket_in : Activity → Option Ticket
ticket_in (activity.Transfer ticket) = Some ticket
ticket_in _ = None

abbrev pub kept_ticket : World → ℕ → Option Ticket
kept_ticket w k = ticket_in (caller_at w k).doing

-- a stop stands before every other answer, `Closed` comes where the caller has ended, `Transfer` where it is in a transfer, which
-- `step` never ends, and at every answer but `Did` nothing changes
abbrev pub StepIs : Shown → ℕ → Stepped → Shown → Type 0
StepIs old k (stepped.Did place told) new = (old.stopped ≡ None) × (kept_ticket old.world k ≡ None) × DoesNext old k place told new
StepIs old k (stepped.Waits why) new = (old.stopped ≡ None) × WaitIs old.world k why × (new ≡ old)
StepIs old k (stepped.Transfer ticket told) new =
    (old.stopped ≡ None) × (ticket.caller ≡ k) × (next old.world k ≡ Does (Done ticket)) × (told ≡ told_transfer (began old) k ticket) × (new ≡ old)
StepIs old k (stepped.Stopped first told) new = (old.stopped ≡ Some first) × (told ≡ told_stop (began old) k first) × (new ≡ old)
StepIs old k stepped.Closed new = (old.stopped ≡ None) × (has_ended old.world k ≡ true) × (new ≡ old)
StepIs old k stepped.Memory new = (old.stopped ≡ None) × (has_ended old.world k ≡ false) × (new ≡ old)

abbrev pub IsDid : Stepped → Type 0
IsDid (stepped.Did place told) = ⊤
IsDid _ = ⊥

-- the boot waits for nothing, and is in no transfer
abbrev pub IsOfBoot : Stepped → Type 0
IsOfBoot (stepped.Waits why) = ⊥
IsOfBoot (stepped.Transfer ticket told) = ⊥
IsOfBoot _ = ⊤

-- a denial is counted exactly where the step waits for those who hold a slot
abbrev pub DenialsAre : List Dev → ℕ → Option Denial → Stepped → ℕ → Option Denial → Type 0
DenialsAre live denied last (stepped.Waits (wait.Leases of mask)) denies newest = WaitsForLeases live of denied (wait.Leases of mask) denies newest
DenialsAre live denied last _ denies newest = (denies ≡ denied) × (newest ≡ last)
