-- The tables of an accepted configuration, where the name of its file has no newline.
use Rattle.std.specs.Prelude.{ℕ, List, ◌++◌}
use Rattle.cf_types.specs.declared.tables.Tables.{Tables}
use Rattle.config_rules.specs.Listing.{listing}
use Rattle.config_rules.specs.Meaning.{Means}
use Rattle.config_rules.specs.Reading.{Files}
use Rattle.run_rules.specs.declared.event.Event.{Event}
use Rattle.run_rules.specs.declared.event.Format.{Format}
use Rattle.run_rules.specs.declared.world.Setup.{Setup}
use Rattle.run_rules.specs.Run.{Run}
use Rattle.run_rules.specs.World.{World, opening}
use Rattle.replay_laws.specs.OneLine.{AreOneLine, IsOneLine}
use Rattle.replay_laws.specs.Taken.{MayPlay, Takes, history_in}

-- their words are each within one line
abbrev pub MeansLines : Type 0
MeansLines = (files : Files) (name : List ℕ) (tables : Tables) → Means files name tables → IsOneLine name → AreOneLine tables

-- so what a run by them writes behind their listing is taken as this run, in each format
abbrev pub TakesMeant : Type 0
TakesMeant =
    (files : Files) (name : List ℕ) (s : Setup) (f : Format) (h : List Event) (v : World) → Means files name s.tables → IsOneLine name → MayPlay s → Run (opening s) h v
    → Takes s (listing s.tables ++ history_in f h v) h v
