-- What reasons tell: the row without one is the winner, and each is the first that applies.
use Rattle.std.specs.Prelude.{◌≡◌, ◌⊎◌, ◌↔◌, ℕ, ◌<◌, ◌+◌, Bool, true, false, nat_lt, List, length, filter, Some, None}
use Rattle.std.specs.List.{Contains}
use Rattle.cf_types.specs.declared.tables.Place.{Place}
use Rattle.cf_types.specs.declared.tables.Row.{Row}
use Rattle.cf_types.specs.Locators.{locators_at}
use Rattle.cf_types.specs.Numbers.{below}
use Rattle.config_rules.specs.Formed.{FormedTables}
use Rattle.run_rules.specs.declared.world.Dev.{Dev}
use Rattle.run_rules.specs.declared.world.ParentRef.{ParentRef}
use Rattle.run_rules.specs.declared.world.Setup.{Setup}
use Rattle.run_rules.specs.Search.{fits, found_at, is_candidate, match_value, value_of, winner}
use Rattle.run_rules.specs.World.{driver_of, row_at}
use Rattle.match_reasons.specs.declared.reason.Reason.{Reason}
use Rattle.match_reasons.specs.declared.reason.Reason.TheVariants.{Parent, Locator as Missed, NoMatch, Taken, Beaten}
use Rattle.match_reasons.specs.Reasons.{could_stand, fits_at, others, reason}

-- ---- the winner

-- a row has no reason exactly where it is the winner
abbrev pub WinnerAlone : Type 0
WinnerAlone =
    (s : Setup) (live : List Dev) (p : ParentRef) (place : Place) (x r : ℕ) → r < length s.tables.rows
    → (reason s live p place x r ≡ None) ↔ (winner s live p place x ≡ Some r)

-- ---- the reasons

-- a row is a candidate, and has a greater match value than another, or an equal one and comes earlier
pub record IsBetter (s : Setup) (live : List Dev) (p : ParentRef) (place : Place) (x q r : ℕ) : Type 0 where
  pub candidate : is_candidate s live p place x q ≡ true
  pub better : (value_of s r x < value_of s q x) ⊎ ((value_of s r x ≡ value_of s q x) × (q < r))

-- a live device that has the one unit of a row
pub record HasUnit (s : Setup) (live : List Dev) (row : Row) (number : ℕ) : Type 0 where
  pub alone : row.star ≡ false
  pub device : Dev
  pub lives : Contains live device
  pub serial : device.serial ≡ number
  pub driver : driver_of s device.row ≡ row.device
  pub unit : device.unit ≡ row.unit

-- what a reason says of a row is so
abbrev pub Applies : Setup → List Dev → ParentRef → Place → ℕ → ℕ → Row → Reason → Type 0
Applies s live p place x r row Parent = fits s.tables p place row ≡ false
Applies s live p place x r row (Missed i) = fits_at (locators_at s.tables.attrs place) row.locs (found_at s.machine x) i ≡ false
Applies s live p place x r row NoMatch = match_value s.machine row.attach x ≡ 0
Applies s live p place x r row (Taken serial) = HasUnit s live row serial
Applies s live p place x r row (Beaten q) = IsBetter s live p place x q r

-- the order of the reasons
abbrev pub precedes : Reason → Reason → Bool
precedes Parent Parent = false
precedes Parent _ = true
precedes (Missed i) Parent = false
precedes (Missed i) (Missed j) = nat_lt i j
precedes (Missed i) _ = true
precedes NoMatch (Taken n) = true
precedes NoMatch (Beaten q) = true
precedes NoMatch _ = false
precedes (Taken n) (Beaten q) = true
precedes (Taken n) _ = false
precedes (Beaten q) _ = false

-- the reason applies, and none before it does
pub record IsFirst (s : Setup) (live : List Dev) (p : ParentRef) (place : Place) (x r : ℕ) (row : Row) (why : Reason) : Type 0 where
  pub applies : Applies s live p place x r row why
  pub first : (other : Reason) → precedes other why ≡ true → Applies s live p place x r row other → ⊥

-- each reason that is told is the first that applies to its row
abbrev pub FirstReasons : Type 0
FirstReasons =
    (s : Setup) (live : List Dev) (p : ParentRef) (place : Place) (x r : ℕ) (row : Row) (why : Reason)
    → row_at s r ≡ Some row → reason s live p place x r ≡ Some why → IsFirst s live p place x r row why

-- ---- all rows

-- the winner is among the rows that are told one by one, and each row is told or counted
pub record TellsAll (s : Setup) (live : List Dev) (p : ParentRef) (place : Place) (x : ℕ) : Type 0 where
  pub winner : (r : ℕ) → winner s live p place x ≡ Some r → could_stand s.tables place r ≡ true
  pub rest : length (filter (could_stand s.tables place) (below (length s.tables.rows))) + others s.tables place ≡ length s.tables.rows

abbrev pub AllTold : Type 0
AllTold = (s : Setup) (live : List Dev) (p : ParentRef) (place : Place) (x : ℕ) → FormedTables s.tables → TellsAll s live p place x
