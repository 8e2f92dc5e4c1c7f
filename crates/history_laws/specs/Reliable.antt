-- What may be relied on in the history and the tree that a run prints.
use Rattle.std.specs.Prelude.{◌≡◌, List, ◌∷◌, ◌++◌}
use Rattle.run_rules.specs.declared.event.Event.{Event}
use Rattle.run_rules.specs.Laws.{FreesChildless, FreesUnheld, Lawful}
use Rattle.run_rules.specs.Tree.{tree_lines}
use Rattle.run_rules.specs.World.{World}
use Rattle.history_laws.specs.Tells.{TellsTree}

-- wherever an event stands in the history, after these events before it
abbrev pub AtEach : (List Event → Event → Type 0) → List Event → Type 0
AtEach P h = (before rest : List Event) (e : Event) → h ≡ before ++ e ∷ rest → P before e

-- no device is freed before its references are returned, nor before its children are freed: counted on the printed lines;
-- the history is lawful, and the tree tells of each device that lives what the history tells of it
pub record IsReliable (h : List Event) (w : World) : Type 0 where
  pub references_first : AtEach FreesUnheld h
  pub children_first : AtEach FreesChildless h
  pub lawful : Lawful h
  pub tree : TellsTree h (tree_lines w)
