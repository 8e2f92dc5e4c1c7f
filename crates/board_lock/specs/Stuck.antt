-- That a run comes to a world in which nobody goes on.
use Rattle.std.specs.Prelude.{List}
use Rattle.progress_laws.specs.Still.{IsStuck}
use Rattle.run_rules.specs.declared.event.Event.{Event}
use Rattle.run_rules.specs.Run.{Run}
use Rattle.run_rules.specs.World.{World}

-- some events lead from w to such a world
pub record GetsStuck (w : World) : Type 0 where
  pub history : List Event
  pub world : World
  pub run : Run w history world
  pub stuck : IsStuck world
