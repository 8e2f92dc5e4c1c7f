-- The acts by which devices fall asleep and wake.
use Rattle.std.specs.Prelude.{ℕ, Bool, if◌then◌else◌, List}
use Rattle.run_rules.specs.declared.event.Act.{Act}
use Rattle.run_rules.specs.declared.event.Act.TheVariants as act
use Rattle.run_world.specs.declared.recent.Called.{Called}
use Rattle.run_world.specs.declared.recent.Telling.{Telling}
use Rattle.run_world.specs.declared.recent.Telling.TheVariants.{Sleeps, Wakes}

-- what an act tells by which what is called so fell asleep, or woke
abbrev pub resting : Bool → Called → Telling
resting asleep of = if asleep then Sleeps of else Wakes of

-- the act by which a device of this name fell asleep, or woke
abbrev pub rest_of : Bool → List ℕ → Act
rest_of asleep name = if asleep then act.Sleep name else act.Wake name
