-- What scans go through.
use Rattle.std.specs.Prelude.{◌≤◌, ℕ, length}
use Rattle.attr_graph.specs.Graphs.{IsGraphOf, declared_by}
use Rattle.cf_types.specs.Offers.{interfaces}
use Rattle.scan_engine.specs.Styled.{AreStylesOf}
use Rattle.scan_engine.specs.declared.scan.Ground.{Ground}

-- the graph is that of the tables, the styles are those of the machine, and there are no more rows, spots and attributes of a driver than a
-- scan goes through
pub record IsGround (g : Ground) : Type 0 where
  pub graph : IsGraphOf (declared_by g.tables.now) g.graph.now
  pub few_rows : length g.tables.now.rows ≤ 8192
  pub few_spots : length g.machine.now.spots ≤ 1024
  pub styles : AreStylesOf g.machine.now g.styles.now
  pub few_offered : (d : ℕ) → length (interfaces g.tables.now.attrs g.tables.now.devices d) ≤ 64
