-- How many of its commands a caller has begun.
use Rattle.std.specs.Prelude.{ℕ, ◌+◌}
use Rattle.run_rules.specs.declared.world.Activity.{Activity}
use Rattle.run_rules.specs.declared.world.Activity.TheVariants as activity
use Rattle.run_rules.specs.World.{Caller}

-- those that are over, and the one that it is in the middle of
abbrev pub begun_by : ℕ → Activity → ℕ
begun_by over activity.Idle = over
begun_by over activity.Ended = over
begun_by over _ = over + 1

abbrev pub begun_of : Caller → ℕ
begun_of c = begun_by c.over c.doing
