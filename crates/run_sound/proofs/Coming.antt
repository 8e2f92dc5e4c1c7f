-- What comes may come, and what the choice of a frame's deed tells of the world: `Next` read backwards, for proofs.
use Rattle.std.specs.Prelude.{◌≡◌, ◌≢◌, ◌⊎◌, ◌<◌, ◌≤◌, ◌^◌, ◌||◌, ◌==◌, ⊤, ℕ, Bool, true, false, IsTrue, List, [], ◌∷◌, Option, Some, None, length, option_and_then, slice_index_or}
use Rattle.run_rules.specs.declared.world.Setup.{Setup}
use Rattle.run_rules.specs.declared.world.Dev.{Dev}
use Rattle.run_rules.specs.declared.world.Arrival.{Arrival}
use Rattle.run_rules.specs.declared.world.Frame.{Frame}
use Rattle.run_rules.specs.declared.world.Frame.TheVariants.{Scan, Finaliser}
use Rattle.run_rules.specs.declared.world.Position.{Position}
use Rattle.run_rules.specs.declared.world.Turn.{Turn}
use Rattle.run_rules.specs.declared.world.Wanted.{Wanted}
use Rattle.run_rules.specs.World.{World, caller_at, device_at, driver_of, has, is_live}
use Rattle.run_rules.specs.Search.{after_turn, due, is_occupied, is_taken}
use Rattle.run_rules.specs.declared.deed.Deed.{Deed}
use Rattle.run_rules.specs.declared.deed.Deed.TheVariants.{Search, EndScan, BeginInterrupts, Finalise, EndCaller}
use Rattle.run_rules.specs.Next.{arrival, command_of, first_held, late_spot, place_of_spot}

-- a device may come below p: p is the root or lives, its unit and its spot are free, the spot is not hidden, and its row and its spot are there
pub record MayCome (s : Setup) (live : List Dev) (hidden : List ℕ) (p : ℕ) (a : Arrival) : Type 0 where
  pub parent : a.parent ≡ p
  pub known : IsTrue (p == 0 || is_live live p)
  pub unit : is_taken s live (driver_of s a.row) a.unit ≡ false
  pub bare : is_occupied live a.spot ≡ false
  pub seen : has hidden a.spot ≡ false
  pub spot : a.spot < length s.machine.spots
  pub row : a.row < length s.tables.rows
  pub small : a.unit < 2 ^ 32

-- ---- why a frame's deed is done

-- a turn: the scan is on top, the turn is due, and what comes is the winner there
pub record IsTurn (w : World) (k p spot : ℕ) (to : Position) (got : Option Arrival) : Type 0 where
  pub only : Option ℕ
  pub wanted : List Wanted
  pub from : Position
  pub rest : List Frame
  pub turn : Turn
  pub stack : (caller_at w k).stack ≡ Scan p only wanted from ∷ rest
  pub is_due : due w.setup w.live w.absent w.hidden p only wanted from ≡ Some turn
  pub place : spot ≡ turn.at.spot
  pub moved : to ≡ after_turn turn
  pub came : got ≡ arrival w.setup w.live p turn.place turn.at.spot

-- a scan's end: it is on top, and no turn is due
pub record IsScanEnd (w : World) (k p : ℕ) : Type 0 where
  pub only : Option ℕ
  pub wanted : List Wanted
  pub from : Position
  pub rest : List Frame
  pub stack : (caller_at w k).stack ≡ Scan p only wanted from ∷ rest
  pub none_due : due w.setup w.live w.absent w.hidden p only wanted from ≡ None

-- which finaliser is called: the one on top, or that at a place of the boot's list, of this pass or of a new one
abbrev pub IsCalled : World → ℕ → ℕ → Option ℕ → Bool → Type 0
IsCalled w k s None anew = (rest : List Frame) × ((caller_at w k).stack ≡ Finaliser s ∷ rest) × (anew ≡ false)
IsCalled w k s (Some place) false =
    (k ≡ 0) × ((caller_at w k).stack ≡ []) × (w.interrupts_on ≡ true) × (place ≡ w.next_finaliser) × (w.next_finaliser < length w.finalisers)
    × (s ≡ slice_index_or w.finalisers place 0)
IsCalled w k s (Some place) true =
    (k ≡ 0) × ((caller_at w k).stack ≡ []) × (w.interrupts_on ≡ true) × (place ≡ 0) × (length w.finalisers ≤ w.next_finaliser)
    × (s ≡ slice_index_or w.finalisers 0 0) × (w.pass_repeats ≡ true)

-- what comes to the spot that a finaliser shows
abbrev pub IsShown : World → ℕ → Option ℕ → Option Arrival → Type 0
IsShown w s None got = got ≡ None
IsShown w s (Some x) got = got ≡ arrival w.setup w.live s (place_of_spot w x) x

-- a call of a finaliser: the spot is the first late one of its device
pub record IsCall (w : World) (k s : ℕ) (shown : Option ℕ) (got : Option Arrival) (listed : Option ℕ) (anew : Bool) : Type 0 where
  pub called : IsCalled w k s listed anew
  pub spot : option_and_then (late_spot w) (device_at w.live s) ≡ shown
  pub came : IsShown w s shown got

-- why interrupts begin: the boot has no frame, and they do not work yet
pub record IsPhase (w : World) (k : ℕ) : Type 0 where
  pub boots : k ≡ 0
  pub stack : (caller_at w k).stack ≡ []
  pub before : w.interrupts_on ≡ false

-- why a caller ends: the boot has nothing left, or a script is over and nothing is held
abbrev pub IsOver : World → ℕ → Type 0
IsOver w k =
    ((k ≡ 0) × (w.interrupts_on ≡ true) × (length w.finalisers ≤ w.next_finaliser) × (w.pass_repeats ≡ false))
    ⊎ ((k ≢ 0) × (command_of w k ≡ None) × (first_held w k ≡ None))

pub record IsEnd (w : World) (k : ℕ) : Type 0 where
  pub stack : (caller_at w k).stack ≡ []
  pub over : IsOver w k

-- the reason of a frame's deed; of other deeds nothing is said
abbrev pub HasReason : World → ℕ → Deed → Type 0
HasReason w k (Search p spot to got) = IsTurn w k p spot to got
HasReason w k (EndScan p) = IsScanEnd w k p
HasReason w k BeginInterrupts = IsPhase w k
HasReason w k (Finalise s shown got listed anew) = IsCall w k s shown got listed anew
HasReason w k EndCaller = IsEnd w k
HasReason w k _ = ⊤
