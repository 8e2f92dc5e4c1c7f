-- What the lines of a watch file do: turns, subscriptions and reads, in their order.
use Rattle.std.specs.Prelude.{◌≡◌, ℕ, zero, suc, if◌then◌else◌, List, [], ◌∷◌, ◌++◌, is_some}
use Rattle.boot_laws.specs.Thorough.{IsThorough}
use Rattle.dev_board.specs.Shown.{Shown}
use Rattle.dev_monitor.specs.Subscribers.{Watched, after_read, read_by, unwatched, with_events, with_reader}
use Rattle.dev_monitor.specs.declared.reading.Reading.{Reading}
use Rattle.history_laws.specs.Reliable.{IsReliable}
use Rattle.run_rules.specs.declared.event.Event.{Event}
use Rattle.run_rules.specs.declared.world.Setup.{Setup}
use Rattle.run_rules.specs.Run as run
use Rattle.run_rules.specs.World.{World, opening}
use Rattle.script_text.specs.declared.watch_line.WatchLine.{WatchLine}
use Rattle.script_text.specs.declared.watch_line.WatchLine.TheVariants.{Boot, Read, Sub, Turn}

-- ---- reads

-- what a subscriber is told by so many reads, the last of which may be the first that tells nothing
abbrev pub readings : ℕ → ℕ → Watched → List Reading
readings zero who g = []
readings (suc n) who g = record { who = who; note = read_by g who } ∷ (if is_some (read_by g who) then readings n who (after_read g who) else [])

-- and what is left to read then
abbrev pub after_readings : ℕ → ℕ → Watched → Watched
after_readings zero who g = g
after_readings (suc n) who g = if is_some (read_by g who) then after_readings n who (after_read g who) else after_read g who

-- ---- lines

-- what a line does to a world and to what is watched of it, and what it tells: a boot runs until it is over, a turn is played as in an
-- order file, and all events up to here are taken in before somebody subscribes or reads
abbrev pub LineDoes : World → Watched → WatchLine → List Reading → World → Watched → Type 0
LineDoes w g Boot said v f = (h : List Event) × run.Boot w h v × (f ≡ with_events g h) × (said ≡ [])
LineDoes w g (Turn k) said v f = (v ≡ (run.played w (k ∷ [])).1) × (f ≡ with_events g (run.played w (k ∷ [])).0) × (said ≡ [])
LineDoes w g (Sub who room) said v f = (v ≡ w) × (f ≡ with_reader g who room) × (said ≡ [])
LineDoes w g (Read who most) said v f = (v ≡ w) × (f ≡ after_readings most who g) × (said ≡ readings most who g)

-- the same of lines one after the other
abbrev pub LinesDo : World → Watched → List WatchLine → List Reading → World → Watched → Type 0
LinesDo w g [] said v f = (v ≡ w) × (f ≡ g) × (said ≡ [])
LinesDo w g (line ∷ lines) said v f =
    (m : World) × (k : Watched) × (now later : List Reading) × LineDoes w g line now m k × LinesDo m k lines later v f × (said ≡ now ++ later)

-- the lines of a watch file, from the opening world on, lead to these events and this world, and tell this
abbrev pub IsWatched : Setup → List WatchLine → List Event → World → List Reading → Type 0
IsWatched s lines events world said = (f : Watched) × LinesDo (opening s) unwatched lines said world f × (events ≡ f.events)

-- the board has done so; its history is reliable and thorough
pub record IsWatchOf (s : Setup) (lines : List WatchLine) (said : List Reading) (b : Shown) : Type 0 where
  pub watched : IsWatched s lines b.events b.world said
  pub made : b.world.setup ≡ s
  pub reliable : IsReliable b.events b.world
  pub thorough : IsThorough b.events b.world
