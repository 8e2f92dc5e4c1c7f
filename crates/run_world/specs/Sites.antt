-- The world of a site.
use Rattle.run_rules.specs.World.{World}
use Rattle.run_world.specs.declared.parts.Core.{Core}
use Rattle.run_world.specs.declared.site.Site.{Site}
use Rattle.run_world.specs.View.{world_of}

-- the world that the parts are, on this site
abbrev pub world_at : Site → Core → World
world_at site c = world_of site.setup c
