-- Laws of every run: what holds of every history of a run, and so of each prefix of one, and what holds where an event stands.
-- The laws themselves are in `Laws` of run_rules.
use Rattle.std.specs.Prelude.{◌≡◌, true, List, [], ◌∷◌, ◌++◌, ℕ, Some}
use Rattle.run_rules.specs.declared.event.Event.{Event}
use Rattle.run_rules.specs.declared.world.Setup.{Setup}
use Rattle.run_rules.specs.World.{World, opening}
use Rattle.run_rules.specs.Laws.{freed_name, lives}
use Rattle.run_rules.specs.Run.{Run}
use Rattle.run_sound.specs.Kept.{MayRun}

-- whatever the tables, the machine and the scripts, formed as they are: the events of a run, and the world that they lead to
abbrev pub OfEveryRun : (List Event → World → Type 0) → Type 0
OfEveryRun P = (s : Setup) (h : List Event) (v : World) → MayRun s → Run (opening s) h v → P h v

-- the events before an event of a run, and this event
abbrev pub OfEveryEvent : (List Event → Event → Type 0) → Type 0
OfEveryEvent P = (s : Setup) (h : List Event) (e : Event) (v : World) → MayRun s → Run (opening s) (h ++ e ∷ []) v → P h e

-- what is freed lived: since it last came it was not freed
abbrev pub FreesLiving : List Event → Event → Type 0
FreesLiving h e = (x : List ℕ) → freed_name e.act ≡ Some x → lives h x ≡ true
