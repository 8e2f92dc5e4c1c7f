-- What a search brings, and what it brought where memory ran out.
use Rattle.std.specs.Prelude.{◌≡◌, ℕ, ◌+◌, ◌<◌, true, false, List, [], ◌∷◌, ◌++◌, length, ⊤, Result, OnOk, OnErr}
use Rattle.cf_types.specs.declared.memory.Memory.{Memory}
use Rattle.cf_types.specs.declared.tables.Place.{Place}
use Rattle.run_rules.specs.declared.world.Dev.{Dev}
use Rattle.run_rules.specs.Search.{is_taken, parent_offers, parent_ref, unit_of}
use Rattle.run_rules.specs.World.{driver_of, parent_name, unit_name}
use Rattle.live_rules.specs.declared.plan.LiveLine.{LiveLine}
use Rattle.live_rules.specs.declared.plan.LiveLine.TheVariants.{Attached}
use Rattle.live_rules.specs.Live.{LiveWorld, LiveSite, attach, attached_line, is_free, is_known, is_on, new_device}
use Rattle.live_tables.specs.Running.{HasSerials, Running}

-- the lines of devices that come one after the other, each as it comes
unfoldable pub lines_as_they_come : LiveSite → List Dev → List Dev → List LiveLine
lines_as_they_come t live [] = []
lines_as_they_come t live (d ∷ ds) = attached_line t live d ∷ lines_as_they_come t (live ++ d ∷ []) ds

-- these devices stand behind those that lived, and have their lines behind those that were there
pub record Brings (r v : Running) (old new : List LiveLine) : Type 0 where
  pub came : List Dev
  pub site : v.site ≡ r.site
  pub live : v.world.live ≡ r.world.live ++ came
  pub next : v.world.next ≡ r.world.next + length came
  pub on : v.world.on ≡ r.world.on
  pub lines : new ≡ old ++ lines_as_they_come r.site r.world.live came

-- more devices would have come
pub record Begins (v whole : LiveWorld) : Type 0 where
  pub rest : List Dev
  pub live : whole.live ≡ v.live ++ rest

-- a device may come by a row: its parent is the root or lives, its spot is free, and its row is on and gives a unit that is free
pub record MayCome (r : Running) (p x by_row : ℕ) : Type 0 where
  pub known : is_known r.world p ≡ true
  pub free : is_free r.site r.world x ≡ true
  pub unit : is_taken r.site.setup r.world.live (driver_of r.site.setup by_row) (unit_of r.site.setup r.world.live by_row) ≡ false
  pub on : is_on r.site r.world.on by_row ≡ true
  pub row : by_row < length r.site.setup.tables.rows
  pub serials : HasSerials r.world

-- the line of a device that comes by a row, under a unit and below a parent
abbrev pub line_of : Running → ℕ → ℕ → ℕ → LiveLine
line_of r row unit p = Attached (unit_name r.site.setup row unit) (parent_name r.site.setup r.world.live p) row

-- the same under the unit that its row gives
abbrev pub coming_line : Running → ℕ → ℕ → ℕ → LiveLine
coming_line r p x row = attached_line r.site r.world.live (new_device r.site r.world p x row)

-- it came
abbrev pub with_device : Running → ℕ → ℕ → ℕ → Running
with_device r p x row = record r { world = attach r.site r.world p x row }

-- a parent at whose place spots are searched: it is the root or lives, and offers the place
pub record IsParent (r : Running) (p : ℕ) (place : Place) : Type 0 where
  pub known : is_known r.world p ≡ true
  pub offered : parent_offers r.site.setup.tables (parent_ref r.site.setup r.world.live p) place ≡ true
  pub serials : HasSerials r.world

-- what a search leaves is the whole of it, or where memory ran out its beginning
pub record Searched (r v : Running) (whole : LiveWorld) (old new : List LiveLine) (done : Result ⊤ Memory) : Type 0 where
  pub brings : Brings r v old new
  pub ok : OnOk done (v.world ≡ whole)
  pub err : OnErr done (Begins v.world whole)
