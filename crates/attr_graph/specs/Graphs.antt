-- The graph of what is declared.
use Rattle.std.specs.Prelude.{◌≡◌, map}
use Rattle.cf_types.specs.declared.declared.Declared.{Declared}
use Rattle.cf_types.specs.declared.tables.Tables.{Tables}
use Rattle.cf_types.specs.Offers.{named_by, nodes_of}
pub use Rattle.config_rules.specs.Formed.{FitGraph}
use Rattle.attr_graph.specs.Reach.{Shape}

-- the graph has the attributes and devices that are declared
pub record IsGraphOf (d : Declared) (g : Shape) : Type 0 where
  pub attrs : g.attrs ≡ nodes_of d.attrs
  pub devices : g.devices ≡ map named_by d.devices

-- what tables declare
abbrev pub declared_by : Tables → Declared
declared_by t = record { attrs = t.attrs; devices = t.devices; attaches = t.attaches }
