-- Which texts are taken as a history, and as which.
use Rattle.std.specs.Prelude.{◌≡◌, ℕ, List, ◌++◌, All, codes}
use Rattle.std.specs.declared.result.Result.TheVariants.{Ok}
use Rattle.cf_types.specs.Lines.{ended}
use Rattle.config_rules.specs.Listing.{listing}
use Rattle.config_rules.specs.ScriptText.{FormedScript}
use Rattle.run_rules.specs.declared.event.Event.{Event}
use Rattle.run_rules.specs.declared.event.Format.{Format}
use Rattle.run_rules.specs.declared.event.Format.TheVariants as format
use Rattle.run_rules.specs.declared.world.Setup.{Setup}
use Rattle.run_rules.specs.Lines.{IsFormed, lines, lines_1}
use Rattle.run_rules.specs.Reread.{reread}
use Rattle.run_rules.specs.Run.{Run}
use Rattle.run_rules.specs.Tree.{tree_text}
use Rattle.run_rules.specs.World.{World, opening}
use Rattle.history_laws.specs.Reliable.{IsReliable}
use Rattle.run_sound.specs.Kept.{MayRun}
use Rattle.replay_laws.specs.OneLine.{AreOneLine}

-- the text is taken as these events, which lead from the opening world to this one
abbrev pub Takes : Setup → List ℕ → List Event → World → Type 0
Takes s text h v = reread (opening s) text ≡ Ok (h, v)

-- a history with its tree, in a format
abbrev pub lines_in : Format → List Event → List ℕ
lines_in format.First h = lines_1 h
lines_in format.Second h = lines h

abbrev pub history_in : Format → List Event → World → List ℕ
history_in f h v = lines_in f h ++ tree_text v

-- formed tables, a machine that fits them, and at most 16 formed scripts
pub record MayPlay (s : Setup) : Type 0 where
  pub may : MayRun s
  pub scripts : All FormedScript s.scripts

-- what is taken is a run, and its history may be relied on
abbrev pub TakesRuns : Type 0
TakesRuns = (s : Setup) (text : List ℕ) (h : List Event) (v : World) → MayRun s → Takes s text h v → Run (opening s) h v × IsReliable h v

-- what a run writes behind the listing of its tables is taken as this run, in each format
abbrev pub TakesOwn : Type 0
TakesOwn =
    (s : Setup) (f : Format) (h : List Event) (v : World) → MayPlay s → AreOneLine s.tables → Run (opening s) h v
    → Takes s (listing s.tables ++ history_in f h v) h v

-- and so without the listing
abbrev pub TakesHistory : Type 0
TakesHistory = (s : Setup) (f : Format) (h : List Event) (v : World) → MayPlay s → Run (opening s) h v → Takes s (history_in f h v) h v

-- so what is taken in one format is taken in the other, as the same events
abbrev pub TakesBoth : Type 0
TakesBoth =
    (s : Setup) (f g : Format) (h : List Event) (v : World) → MayPlay s → Takes s (history_in f h v) h v → Takes s (history_in g h v) h v

-- and a text of formed events that is taken in format 2, whatever stands behind its line `tree`, is taken in format 1, as the same events
abbrev pub TakesOlder : Type 0
TakesOlder =
    (s : Setup) (h : List Event) (rest : List ℕ) (g : List Event) (v : World) → MayRun s → All IsFormed h → Takes s (lines h ++ (ended (codes "tree") ++ rest)) g v
    → Takes s (lines_1 h ++ (ended (codes "tree") ++ rest)) g v
