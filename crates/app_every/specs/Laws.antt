-- What is told of every order, by the runs of the definitions.
use Rattle.std.specs.Prelude.{◌≡◌, ℕ, All, List, Some}
use Rattle.std.specs.List.{Contains}
use Rattle.progress_laws.specs.Still.{HaveAllEnded, IsStuck}
use Rattle.every_order.specs.Every.{IsEveryOrder}
use Rattle.every_order.specs.Kinds.{wait_text}
use Rattle.every_order.specs.Reach.{IsBooted}
use Rattle.every_order.specs.Ways.{texts_of}
use Rattle.every_order.specs.declared.every.Every.{Every}
use Rattle.every_order.specs.declared.ways.Way.{Way}
use Rattle.run_rules.specs.declared.event.Event.{Event}
use Rattle.run_rules.specs.declared.world.Setup.{Setup}
use Rattle.run_rules.specs.Run.{Run, played}
use Rattle.run_rules.specs.Tree.{tree_text}
use Rattle.run_rules.specs.World.{World}

-- the turns of an order, played behind the boot, leave a world of this kind, which has the text
abbrev pub IsPlayedTo : World → (World → Type 0) → (World → List ℕ) → Way → Type 0
IsPlayedTo w Kind text_of way = Kind (played w way.order.items).1 × (text_of (played w way.order.items).1 ≡ way.text.items)

-- the text of each world of this kind in which some run behind the boot ends is among those of the ways
abbrev pub TellsAll : World → (World → Type 0) → (World → List ℕ) → List Way → Type 0
TellsAll w Kind text_of ways = (h : List Event) (v : World) → Run w h v → Kind v → Contains (texts_of ways) (text_of v)

-- each order that is told leads to where it is told to, and what some run ends in is told
pub record AreTold (w : World) (Kind : World → Type 0) (text_of : World → List ℕ) (ways : List Way) : Type 0 where
  pub played : All (IsPlayedTo w Kind text_of) ways
  pub all : TellsAll w Kind text_of ways

-- the trees of the ends, and who waits for whom where scripts stand still, behind the boot
pub record TellsRuns (s : Setup) (e : Every) : Type 0 where
  pub world : World
  pub booted : IsBooted s world
  pub ends : AreTold world HaveAllEnded tree_text e.ends.items
  pub stuck : AreTold world IsStuck wait_text e.stuck.items

abbrev pub EveryTellsRuns : Type 0
EveryTellsRuns = (s : Setup) (most : ℕ) (e : Every) → IsEveryOrder s most (Some e) → TellsRuns s e
