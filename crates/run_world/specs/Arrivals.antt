-- What a device that comes adds to what is put off, to the boot's list and to a caller's frames.
use Rattle.std.specs.Prelude.{◌≡◌, ◌<◌, ◌||◌, ◌==◌, ℕ, false, IsTrue, List, [], ◌∷◌, ◌++◌, length, Option, None}
use Rattle.std.specs.List.{slice_index_or}
use Rattle.run_rules.specs.declared.world.Setup.{Setup}
use Rattle.run_rules.specs.declared.world.Deferred.{Deferred}
use Rattle.run_rules.specs.declared.world.Key.TheVariants as key
use Rattle.run_rules.specs.declared.world.Activity.TheVariants.{Ended}
use Rattle.run_rules.specs.declared.deed.Deed.{Deed}
use Rattle.run_rules.specs.declared.deed.Deed.TheVariants.{Search, Finalise}
use Rattle.run_rules.specs.declared.world.Arrival.{Arrival}
use Rattle.run_rules.specs.declared.world.Frame.TheVariants.{Finaliser}
use Rattle.run_rules.specs.declared.world.Placing.{Placing}
use Rattle.run_rules.specs.declared.world.Placing.TheVariants.{Nowhere, Queued, PutOff, Pushed}
use Rattle.run_rules.specs.declared.world.Dev.{Dev}
use Rattle.run_rules.specs.World.{Caller, scan_of, driver_of, is_live}
use Rattle.run_rules.specs.Search.{is_occupied, is_taken}
use Rattle.run_rules.specs.After.{listed}
use Rattle.run_world.specs.declared.caller.CallerState.{CallerState}
use Rattle.run_world.specs.declared.parts.Core.{Core}
use Rattle.run_world.specs.Callers.{stacked}
use Rattle.run_world.specs.View.{world_of}

-- the caller at a place
abbrev pub state_at : List CallerState → ℕ → CallerState
state_at cs k = slice_index_or cs k (record { over = 0; doing = Ended; stack = record { frames = []; room = 0 } })

abbrev pub put_off_too : Placing → List Deferred → ℕ → ℕ → List Deferred
put_off_too Queued es parent n = es ++ record { key = key.Interrupts; child = n } ∷ []
put_off_too PutOff es parent n = es ++ record { key = key.Parent parent; child = n } ∷ []
put_off_too Nowhere es parent n = es
put_off_too Pushed es parent n = es

abbrev pub called_too : Placing → List ℕ → ℕ → List ℕ
called_too Queued xs n = xs ++ n ∷ []
called_too Nowhere xs n = xs
called_too PutOff xs n = xs
called_too Pushed xs n = xs

abbrev pub finalised_too : Placing → Caller → ℕ → Caller
finalised_too Pushed c n = stacked c (Finaliser n ∷ c.stack)
finalised_too Nowhere c n = c
finalised_too Queued c n = c
finalised_too PutOff c n = c

abbrev pub searched_too : Placing → Caller → ℕ → Caller
searched_too Pushed c n = stacked c (scan_of n ∷ c.stack)
searched_too Nowhere c n = c
searched_too Queued c n = c
searched_too PutOff c n = c

-- the device is listed and its scan put off, if that is its place; nothing else is another
pub record IsListed (s : Setup) (old new : Core) (a : Arrival) (scan : Placing) : Type 0 where
  pub world : world_of s new ≡ record (listed (world_of s old) a) { deferred = put_off_too scan old.deferred a.parent old.tree.next }
  pub callers : new.callers ≡ old.callers
  pub finalisers : new.finalisers ≡ old.finalisers

-- a device may be listed: its parent is the root or lives, its unit and its spot are free, and its row and its spot are there
pub record MayArrive (s : Setup) (live : List Dev) (a : Arrival) : Type 0 where
  pub known : IsTrue (a.parent == 0 || is_live live a.parent)
  pub unit : is_taken s live (driver_of s a.row) a.unit ≡ false
  pub bare : is_occupied live a.spot ≡ false
  pub spot : a.spot < length s.machine.spots
  pub row : a.row < length s.tables.rows

-- the device that comes by a deed
abbrev pub got_of : Deed → Option Arrival
got_of (Search parent spot moved got) = got
got_of (Finalise of shown got listed anew) = got
got_of _ = None
