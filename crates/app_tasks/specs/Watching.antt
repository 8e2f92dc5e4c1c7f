-- A run that is watched, while its lines are taken.
use Rattle.std.specs.Prelude.{◌≡◌, ◌++◌, List, None}
use Rattle.deed_effect.specs.Agreement.{slots_of}
use Rattle.dev_monitor.specs.Queues.{IsOf}
use Rattle.dev_monitor.specs.Subscribers.{Watched}
use Rattle.dev_monitor.specs.declared.reading.Reading.{Reading}
use Rattle.run_rules.specs.declared.world.Setup.{Setup}
use Rattle.script_text.specs.declared.watch_line.WatchLine.{WatchLine}
use Rattle.app_tasks.specs.declared.watch.Watch.{Watch}
use Rattle.app_tasks.specs.Watched.{LineDoes, LinesDo}

-- the board is one of this setup, may be stepped, and agrees with the slots
pub record IsReady (s : Setup) (x : Watch) : Type 0 where
  pub setup : x.board.world.setup ≡ s
  pub agree : x.slots ≡ slots_of x.board.world
  pub goes_on : x.board.stopped ≡ None

-- the monitor has taken in all events of the board, and stands for this
pub record IsAt (g : Watched) (x : Watch) : Type 0 where
  pub events : g.events ≡ x.board.events
  pub stands : IsOf g x.monitor

-- it did what a line says
pub record DidLine (g : Watched) (line : WatchLine) (old new : Watch) : Type 0 where
  pub watched : Watched
  pub said : List Reading
  pub does : LineDoes old.board.world g line said new.board.world watched
  pub at : IsAt watched new
  pub readings : new.readings ≡ old.readings ++ said

abbrev pub TakesLine : WatchLine → Watch → Watch → Type 0
TakesLine line old new = (g : Watched) → IsAt g old → DidLine g line old new

-- it did what these lines say
pub record DidLines (g : Watched) (lines : List WatchLine) (old new : Watch) : Type 0 where
  pub watched : Watched
  pub said : List Reading
  pub does : LinesDo old.board.world g lines said new.board.world watched
  pub at : IsAt watched new
  pub readings : new.readings ≡ old.readings ++ said

abbrev pub TakesLines : List WatchLine → Watch → Watch → Type 0
TakesLines lines old new = (g : Watched) → IsAt g old → DidLines g lines old new
