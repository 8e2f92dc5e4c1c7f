-- By what a reader of lines goes.
use Rattle.std.specs.Prelude.{◌≡◌}
use Rattle.run_rules.specs.declared.world.Setup.{Setup}
use Rattle.run_rules.specs.World.{World}
use Rattle.history_replay.specs.declared.means.Reader.{Reader}
use Rattle.plain_world.specs.declared.world.Plain.{Plain}
use Rattle.plain_world.specs.Plain.{world_of}

abbrev pub setup_in : Reader → Setup
setup_in r = r.teller.rules.now

-- the world that a plain world is by its rules
abbrev pub world_in : Reader → Plain → World
world_in r p = world_of (setup_in r) p

-- a reader goes by the same rules and format as before
pub record IsSame (r q : Reader) : Type 0 where
  pub rules : q.teller.rules.now ≡ r.teller.rules.now
  pub format : q.format ≡ r.format
