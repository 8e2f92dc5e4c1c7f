-- What a board uses of the tables and of the machine that it starts from. The definitions of the run have no such premise.
use Rattle.std.specs.Prelude.{ℕ, ◌≤◌, List, [], ◌∷◌, length}
use Rattle.std.specs.Coded.{Unit-prop, ×_prop}
use Rattle.std.specs.List.{AllByRecursion, AllByRecursion-prop}
use Rattle.cf_types.specs.declared.tables.Tables.{Tables}
use Rattle.cf_types.specs.Offers.{interfaces}
use Rattle.run_rules.specs.Formed.{HasFormedDevices}
use Rattle.run_rules.specs.Sound.{EachLater}
use Rattle.run_rules.specs.declared.world.Setup.{Setup}

-- what a board uses of formed tables
pub record BoundedTables (t : Tables) : Type 0 where
  pub formed : HasFormedDevices t
  pub few_attrs : length t.attrs ≤ 65536
  pub few_rows : length t.rows ≤ 8192
  pub low_units : AllByRecursion (λ r. r.unit ≤ 65536) t.rows
  pub few_offered : (d : ℕ) → length (interfaces t.attrs t.devices d) ≤ 64

-- and of the machine
pub record Bounded (s : Setup) : Type 0 where
  pub tables : BoundedTables s.tables
  pub few_spots : length s.machine.spots ≤ 1024

-- that each element stands so to each later one is a proposition where that of two is one
pub EachLater-prop : {A : Type 0} (R : A → A → Type 0) → ((x y : A) → IsProp (R x y)) → (xs : List A) → IsProp (EachLater R xs)
EachLater-prop R one [] = Unit-prop
EachLater-prop R one (x ∷ xs) = ×_prop (AllByRecursion-prop (R x) (one x) xs) (EachLater-prop R one xs)
