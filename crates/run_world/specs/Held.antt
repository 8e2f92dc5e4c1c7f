-- The world that is held, with the books about it.
use Rattle.run_rules.specs.World.{World}
use Rattle.run_world.specs.declared.held.Held.TheInside.{Inside}
use Rattle.run_world.specs.View.{Books, world_of}

abbrev pub held_world : Inside → World
held_world h = world_of h.site.setup h.core

abbrev pub HasBooks : Inside → Type 0
HasBooks h = Books h.site.setup h.core
