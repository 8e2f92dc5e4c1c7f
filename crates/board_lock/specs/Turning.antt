-- What a call of the lock does to a seat, by its answer.
use Rattle.std.specs.Prelude.{◌≡◌, ◌≢◌, ◌<◌, ⊤, ℕ, ◌+◌, List, [], ◌∷◌, ◌++◌, length, slice_get, Option, Some, None, option_map}
use Rattle.std.specs.List.{AllByRecursion}
use Rattle.cf_types.specs.declared.machine.Ticket.{Ticket}
use Rattle.run_rules.specs.World.{World}
use Rattle.run_rules.specs.Next.{next}
use Rattle.run_rules.specs.Run.{event_of}
use Rattle.run_rules.specs.declared.event.Event.{Event}
use Rattle.run_rules.specs.declared.deed.Deed.TheVariants.{Done}
use Rattle.run_rules.specs.declared.deed.Choice.TheVariants.{Does}
use Rattle.lease_table.specs.declared.view.SlotWord.{SlotWord}
use Rattle.lease_table.specs.declared.view.View.{View}
use Rattle.dev_board.specs.Shown.{Shown}
use Rattle.dev_board.specs.Witness.{Witness}
use Rattle.dev_board.specs.declared.answer.Answer.TheVariants as answer
use Rattle.dev_board.specs.declared.answer.LeaseStep.TheVariants.{Keep}
use Rattle.board_lock.specs.declared.turn.LockAnswer.{LockAnswer}
use Rattle.board_lock.specs.declared.turn.LockAnswer.TheVariants as turn
use Rattle.board_lock.specs.Boards.{one_end}
use Rattle.board_lock.specs.Holding.{Settles}
use Rattle.board_lock.specs.Seats.{SeatShown, Shows}
use Rattle.board_lock.specs.Stuck.{GetsStuck}
use Rattle.quiet_events.specs.Quiet.{EndsNoWait}

-- the seat after an event of its caller, after the end of its transfer, after its stop, after a look at a slot, and with other leases
abbrev pub counted : SeatShown → Event → SeatShown
counted s e = record { caller = s.caller; closings = s.closings + one_end e; dids = s.dids + 1; stops = s.stops; looked = None; leases = s.leases }

abbrev pub posted : SeatShown → SeatShown
posted s = record { caller = s.caller; closings = s.closings; dids = s.dids + 1; stops = s.stops; looked = None; leases = s.leases }

abbrev pub halted : SeatShown → SeatShown
halted s = record { caller = s.caller; closings = s.closings; dids = s.dids; stops = 1; looked = s.looked; leases = s.leases }

abbrev pub looking : SeatShown → ℕ → Option SlotWord → View → SeatShown
looking s x word v = record { caller = s.caller; closings = s.closings; dids = s.dids; stops = s.stops; looked = option_map (λ _. x) word; leases = v }

abbrev pub settled : SeatShown → View → SeatShown
settled s v = record { caller = s.caller; closings = s.closings; dids = s.dids; stops = s.stops; looked = s.looked; leases = v }

-- this event, of the caller, was appended at the place, which the witness shows
pub record Counts (w : World) (k p : ℕ) (told : Witness) (e : Event) : Type 0 where
  pub shows : Shows w k told
  pub answer : told.answer ≡ answer.Did p
  pub shown : told.event ≡ Some e
  pub by : e.caller ≡ k

-- a step: at an event the seat counts it, and takes or gives back the lease that the witness names; `Closed` comes only where the
-- caller ended once, and `Stuck` only where a run comes to a world in which nobody goes on; at every other answer than an event the seat
-- is as before
abbrev pub TurnIs : World → SeatShown → LockAnswer → SeatShown → Type 0
TurnIs w s (turn.Did p told) t =
    (e : Event) × Counts w s.caller p told e × (t ≡ settled (counted s e) t.leases) × Settles s.leases told.lease t.leases
TurnIs w s (turn.Transfer ticket told) t = Shows w s.caller told × (told.answer ≡ answer.Transfer ticket) × (ticket.caller ≡ s.caller) × (t ≡ s)
TurnIs w s turn.Closed t = (s.closings ≡ 1) × (t ≡ s)
TurnIs w s (turn.Stale kept told) t = ⊥
TurnIs w s (turn.Stopped j told) t = Shows w s.caller told × (told.answer ≡ answer.Stopped j) × (t ≡ s)
TurnIs w s turn.Stuck t = (t ≡ s) × GetsStuck w
TurnIs w s turn.Memory t = t ≡ s

-- the event is that with which this transfer of the caller ends, in a world where its end is what the caller does next
pub record EndsTransfer (k : ℕ) (ticket : Ticket) (e : Event) : Type 0 where
  pub world : World
  pub chosen : next world k ≡ Does (Done ticket)
  pub event : e ≡ event_of world k (Done ticket)

-- a post: the one event is the end of the transfer, so the seat counts it and no end of its caller; the result is stale only where the
-- board keeps another ticket, or none, for the caller; the leases are as before at every answer
abbrev pub PostIs : World → Ticket → SeatShown → LockAnswer → SeatShown → Type 0
PostIs w ticket s (turn.Did p told) t = (e : Event) × Counts w s.caller p told e × EndsTransfer s.caller ticket e × (told.lease ≡ Keep) × (t ≡ posted s)
PostIs w ticket s (turn.Transfer other told) t = ⊥
PostIs w ticket s turn.Closed t = ⊥
PostIs w ticket s (turn.Stale kept told) t = Shows w s.caller told × (told.answer ≡ answer.Stale kept) × (kept ≢ Some ticket) × (t ≡ s)
PostIs w ticket s (turn.Stopped j told) t = Shows w s.caller told × (told.answer ≡ answer.Stopped j) × (t ≡ s)
PostIs w ticket s turn.Stuck t = ⊥
PostIs w ticket s turn.Memory t = t ≡ s

-- one taking of the lock: a turn, or none where the board waits, and then nothing changed
abbrev pub TryIs : World → SeatShown → Option LockAnswer → SeatShown → Type 0
TryIs w s None t = t ≡ s
TryIs w s (Some turn) t = TurnIs w s turn t

abbrev pub IsEvent : LockAnswer → Type 0
IsEvent (turn.Did p told) = ⊤
IsEvent _ = ⊥

-- these turns, in order, each as `step` answers it
abbrev pub TurnsAre : World → SeatShown → List LockAnswer → SeatShown → Type 0
TurnsAre w s [] t = t ≡ s
TurnsAre w s (turn ∷ more) t = (middle : SeatShown) × TurnIs w s turn middle × TurnsAre w middle more t

-- fewer than n turns, in order, each of them an event
pub record EventsAre (w : World) (s : SeatShown) (n : ℕ) (t : SeatShown) : Type 0 where
  pub events : List LockAnswer
  pub few : length events < n
  pub each : AllByRecursion IsEvent events
  pub turns : TurnsAre w s events t

-- the turns of one call: fewer than 32 events, and then one more turn, which is the answer
pub record StepsAre (w : World) (s : SeatShown) (answer : LockAnswer) (t : SeatShown) : Type 0 where
  pub events : List LockAnswer
  pub few : length events < 32
  pub each : AllByRecursion IsEvent events
  pub turns : TurnsAre w s (events ++ answer ∷ []) t

-- the turns of one taking of the lock: those of a call, or events alone, where the board waits then
abbrev pub TriesAre : World → SeatShown → Option LockAnswer → SeatShown → Type 0
TriesAre w s None t = EventsAre w s 32 t
TriesAre w s (Some turn) t = StepsAre w s turn t

-- the last turn of a call, from a seat of the same caller, which stopped the board as often
pub record LastIs (w : World) (s : SeatShown) (answer : LockAnswer) (t : SeatShown) : Type 0 where
  pub middle : SeatShown
  pub caller : middle.caller ≡ s.caller
  pub stops : middle.stops ≡ s.stops
  pub last : TurnIs w middle answer t

-- ---- who waits

-- what a caller that has to wait is answered: that nobody goes on, or that memory ran out; or it is to wait for a notice
abbrev pub RestIs : World → Option LockAnswer → Type 0
RestIs w None = ⊤
RestIs w (Some turn.Stuck) = GetsStuck w
RestIs w (Some turn.Memory) = ⊤
RestIs w (Some _) = ⊥

-- the event of a turn, which the history has at its place, ends no wait; other turns have none
abbrev pub EndsNone : Shown → LockAnswer → Type 0
EndsNone b (turn.Did p told) = (e : Event) × (slice_get b.events p ≡ Some e) × EndsNoWait e.act
EndsNone b _ = ⊤
