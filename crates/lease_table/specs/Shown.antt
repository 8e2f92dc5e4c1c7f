-- What contracts see of a seat.
use Rattle.std.specs.Prelude.{◌≡◌, ◌≢◌, ℕ, zero, suc, List, [], ◌∷◌, ◌++◌, map, Option, Some, None}
use Rattle.ref_ledger.specs.Slots.{Denial}
use Rattle.ref_ledger.specs.declared.state.SlotState.{SlotState}
use Rattle.ref_ledger.specs.declared.buried.Bury.{Bury}
use Rattle.ref_ledger.specs.declared.buried.Bury.TheVariants as bury
use Rattle.lease_table.specs.Leases.{showing, freed, slot_at, caller_view}
use Rattle.atomic_table.specs.Seated.{TableId}
use Rattle.lease_table.specs.declared.view.View.{View}
use Rattle.lease_table.specs.declared.view.SlotWord.{SlotWord}

pub record SeatShown : Type 0 where
  pub table : TableId
  pub caller : ℕ
  pub view : View

pub record KeeperShown : Type 0 where
  pub table : TableId
  pub view : View

-- a lease on a slot, of the slot's generation when it was taken
pub record LeaseShown : Type 0 where
  pub slot : ℕ
  pub generation : ℕ

-- the seats of the first k callers of a table of n slots
abbrev pub first_seat : TableId → ℕ → ℕ → SeatShown
first_seat z n k = record { table = z; caller = k; view = caller_view n k }

abbrev pub first_seats : TableId → ℕ → ℕ → List SeatShown
first_seats z n zero = []
first_seats z n (suc k) = first_seats z n k ++ first_seat z n (suc k) ∷ []

-- the states of the slots
abbrev pub states_in : View → List SlotState
states_in v = map (λ k. k.state) v.standing.slots

-- how often a burial was denied, and the last denial
abbrev pub denial_of : ℕ → ℕ → SlotWord → Option Denial
denial_of zero slot word = None
denial_of (suc n) slot word = Some (record { slot = slot; mask = word.holders })

abbrev pub denial_in : View → Option Denial
denial_in v = denial_of v.shown v.slot v.word

-- the slot is free and has the next generation, and the token names the one that ended; or a word was shown that somebody holds, and this is the mask of its holders
abbrev pub BuryIs : ℕ → View → Bury → View → Type 0
BuryIs x v (bury.Buried token) w = (w ≡ freed v x) × (token ≡ record { slot = x; generation = (slot_at v.standing x).generation })
BuryIs x v (bury.Held mask) w = (w ≡ showing v v.standing x w.word) × (w.word.holders ≡ mask) × (mask ≢ 0)
