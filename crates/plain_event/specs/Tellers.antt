-- The rules of a teller.
use Rattle.std.specs.Prelude.{◌≡◌}
use Rattle.run_rules.specs.declared.world.Setup.{Setup}
use Rattle.run_rules.specs.World.{World}
use Rattle.plain_event.specs.declared.teller.Teller.{Teller}
use Rattle.plain_world.specs.declared.world.Plain.{Plain}
use Rattle.plain_world.specs.Plain.{world_of}

abbrev pub setup_in : Teller → Setup
setup_in t = t.rules.now

-- the world that a plain world is by them
abbrev pub world_in : Teller → Plain → World
world_in t p = world_of (setup_in t) p

-- a teller goes by the same rules as before
abbrev pub KeepsRules : Teller → Teller → Type 0
KeepsRules t u = u.rules.now ≡ t.rules.now
