-- What runs a plan, as contracts see it, and what every value of it keeps.
use Rattle.std.specs.Prelude.{◌≡◌, ◌<◌, ◌+◌, ◌^◌, ℕ, Bool, true, List, [], length, map, Option, None}
use Rattle.std.specs.List.{slice_index_or}
use Rattle.cf_types.specs.Offers.{interfaces}
use Rattle.cf_types.specs.declared.tree.DevLine.{DevLine}
use Rattle.match_search.specs.Best.{live_rows}
use Rattle.run_rules.specs.declared.world.Setup.{Setup}
use Rattle.run_rules.specs.Tree.{tree_below}
use Rattle.run_rules.specs.World.{driver_of}
use Rattle.live_tables.specs.Groups.{Switches}
use Rattle.run_world.specs.UnitsOf.{AreUnitsOf}
use Rattle.unit_alloc.specs.Taken.{NoneTaken}
use Rattle.live_rules.specs.declared.plan.Group.{Group}
use Rattle.live_rules.specs.Laws.{IsSound}
use Rattle.live_rules.specs.Live.{LiveWorld, LiveSite, group_of, tree_line}

-- what no command changes, and the world
pub record Running : Type 0 where
  pub site : LiveSite
  pub world : LiveWorld

-- the world is sound, the rows are marked as they are live, exactly the units of live devices are taken, and the drivers of the devices and the
-- groups of the drivers are known
pub record Keeps (r : Running) (its_drivers : List ℕ) (marks : List Bool) (taken : List (List ℕ)) (table : List (Option ℕ)) : Type 0 where
  pub sound : IsSound r.site r.world
  pub rows : marks ≡ live_rows r.site.setup r.world.live
  pub units : AreUnitsOf r.site.setup r.world.live taken
  pub drivers : its_drivers ≡ map (λ d. driver_of r.site.setup d.row) r.world.live
  pub groups : (d : ℕ) → slice_index_or table d None ≡ group_of r.site.groups d

-- the lines of what is below a parent, so many levels deep
abbrev pub lines_below : Running → ℕ → ℕ → ℕ → List DevLine
lines_below r levels depth p = map (tree_line r.site r.world) (tree_below levels r.world.live depth p)

-- so many serials are left that each spot may be taken once more
abbrev pub HasSerials : LiveWorld → Type 0
HasSerials w = w.next < 2 ^ 63 + length w.live

-- what is kept beside the devices before there are any
pub record AreFirst (s : Setup) (its_groups : List Group) (table : List (Option ℕ)) (switches : Switches) (marks : List Bool) (taken : List (List ℕ)) : Type 0 where
  pub groups : (d : ℕ) → slice_index_or table d None ≡ group_of its_groups d
  pub on : switches ≡ record { count = length its_groups; on = [] }
  pub rows : marks ≡ map (λ r. true) s.tables.rows
  pub units : NoneTaken (length s.tables.devices) taken

-- the interface attributes that a driver offers
abbrev pub offered_of : Running → ℕ → List ℕ
offered_of r driver = interfaces r.site.setup.tables.attrs r.site.setup.tables.devices driver
