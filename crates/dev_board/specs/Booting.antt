-- The events of caller 0 that a board does until its boot is over.
use Rattle.std.specs.Prelude.{◌≡◌, List, [], ◌++◌, None}
use Rattle.std.specs.List.{AllByRecursion}
use Rattle.history_laws.specs.Reliable.{IsReliable}
use Rattle.ref_ledger.specs.declared.state.SlotState.{SlotState}
use Rattle.run_rules.specs.declared.event.Event.{Event}
use Rattle.run_rules.specs.declared.world.Setup.{Setup}
use Rattle.run_rules.specs.Run.{Run, Boot}
use Rattle.run_rules.specs.World.{opening}
use Rattle.deed_effect.specs.Agreement.{slots_of}
use Rattle.dev_board.specs.Shown.{Shown, began}

-- the board did these events and no other; all of them are of caller 0
pub record DidAlone (old : Shown) (h : List Event) (new : Shown) : Type 0 where
  pub events : new.events ≡ old.events ++ h
  pub run : Run old.world h new.world
  pub alone : AllByRecursion (λ e. e.caller ≡ 0) h
  pub stops : new.stops ≡ old.stops
  pub stopped : new.stopped ≡ old.stopped

-- it went on by some events of caller 0
abbrev pub GoesOn : Shown → Shown → Type 0
GoesOn old new = (h : List Event) × DidAlone old h new

-- and these are the boot: caller 0 has ended
abbrev pub Boots : Shown → Shown → Type 0
Boots old new = (h : List Event) × DidAlone old h new × Boot old.world h new.world

-- the board has done nothing yet, and was not stopped
pub record IsNew (b : Shown) : Type 0 where
  pub world : b.world ≡ began b
  pub events : b.events ≡ []
  pub stops : b.stops ≡ 0
  pub stopped : b.stopped ≡ None

-- the board did its boot and nothing else, and was not stopped
pub record IsBooted (b : Shown) : Type 0 where
  pub boot : Boot (began b) b.events b.world
  pub stops : b.stops ≡ 0
  pub stopped : b.stopped ≡ None

-- it is the board of this setup after its boot, its history is reliable, and the slots agree with its devices
pub record IsStarted (s : Setup) (b : Shown) (slots : List SlotState) : Type 0 where
  pub booted : IsBooted b
  pub boot : Boot (opening s) b.events b.world
  pub setup : b.world.setup ≡ s
  pub reliable : IsReliable b.events b.world
  pub goes_on : b.stopped ≡ None
  pub agree : slots ≡ slots_of b.world
