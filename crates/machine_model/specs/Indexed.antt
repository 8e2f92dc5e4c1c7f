-- Tables, and a machine that is read, with their names.
use Rattle.std.specs.Prelude.{◌≤◌, [], ◌∷◌, ◌++◌, length, map}
use Rattle.cf_types.specs.declared.machine.Machine.{Machine}
use Rattle.cf_types.specs.declared.machine.Spot.{Spot}
use Rattle.config_rules.specs.Formed.{CountedTables}
use Rattle.machine_model.specs.declared.draft.Draft.{Draft}
use Rattle.machine_model.specs.declared.index.TableNames.{TableNames}
use Rattle.machine_model.specs.Names.{AreNames}

-- counted tables, with the names of their attributes and attachments
pub record IsIndex (index : TableNames) : Type 0 where
  pub counted : CountedTables index.tables.now
  pub attrs : AreNames index.attrs (map (λ a. a.name) index.tables.now.attrs)
  pub attaches : AreNames index.attaches (map (λ a. a.name) index.tables.now.attaches)

-- few spots, with their names
pub record IsDraft (draft : Draft) : Type 0 where
  pub few_spots : length draft.machine.spots ≤ 1024
  pub spots : AreNames draft.names (map (λ s. s.name) draft.machine.spots)

-- one more spot
abbrev pub with_spot : Machine → Spot → Machine
with_spot m s = record m { spots = m.spots ++ s ∷ [] }
