-- What contracts see of a board.
use Rattle.std.specs.Prelude.{ℕ, List, Option}
use Rattle.run_rules.specs.declared.event.Event.{Event}
use Rattle.run_rules.specs.World.{World, opening}

-- the world, the history that led to it, how often the board was stopped, and by whom first
pub record Shown : Type 0 where
  pub world : World
  pub events : List Event
  pub stops : ℕ
  pub stopped : Option ℕ

-- the world that the board began with; no event changes the setup
abbrev pub began : Shown → World
began b = opening b.world.setup
