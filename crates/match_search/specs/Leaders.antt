-- The rows whose openness goes together, and the first ones of them.
use Rattle.std.specs.Prelude.{◌≡◌, ℕ, ◌<◌, ◌⊎◌, Bool, true, false, List, [], length, find, slice_get, Option, Some, None, option_map, Vec}
use Rattle.std.specs.Global.{Global}
use Rattle.std.specs.List.{slice_index_or}
use Rattle.cf_types.specs.declared.tables.ParentSpec.{ParentSpec}
use Rattle.cf_types.specs.declared.tables.Row.{Row}
use Rattle.cf_types.specs.declared.tables.Tables.{Tables}
use Rattle.match_search.specs.declared.leaders.Leaders.{Leaders}

-- what it depends on whether a row is live and names a parent
pub record Naming : Type 0 where
  pub device : ℕ
  pub unit : ℕ
  pub star : Bool
  pub parent : Option ParentSpec

abbrev pub naming : Row → Naming
naming row = record { device = row.device; unit = row.unit; star = row.star; parent = row.parent }

abbrev pub naming_at : List Row → ℕ → Option Naming
naming_at rows r = option_map naming (slice_get rows r)

-- rows with the same naming pass alike
abbrev pub IsEven : List Row → (ℕ → Bool) → Type 0
IsEven rows p = (q r : ℕ) → naming_at rows q ≡ naming_at rows r → p q ≡ p r

-- of each row the number of one with the same naming
pub record AreKinds (rows : List Row) (kinds : List ℕ) : Type 0 where
  pub count : length kinds ≡ length rows
  pub same : (r : ℕ) → r < length rows → naming_at rows (slice_index_or kinds r 0) ≡ naming_at rows r

-- of the rows of a list the first that passes is the same as of all
abbrev pub AreLeaders : List Row → List ℕ → List ℕ → Type 0
AreLeaders rows all list = (p : ℕ → Bool) → IsEven rows p → find p list ≡ find p all

-- a kind is noted where it was before, or where it is the row's
abbrev pub NotesToo : List ℕ → List Bool → List Bool → ℕ → Type 0
NotesToo kinds old new row = (k : ℕ) → slice_index_or new k false ≡ true → (slice_index_or old k false ≡ true)
    ⊎ ((row < length kinds) × (slice_index_or kinds row 0 ≡ k))

-- the list that is kept, or all where none is
abbrev pub chosen : List ℕ → Option (Option (Vec ℕ Global)) → List ℕ
chosen all None = all
chosen all (Some None) = all
chosen all (Some (Some list)) = list.items

-- the rows that are looked at of those that suit a spot
abbrev pub rows_in : List (List ℕ) → List (Option (Vec ℕ Global)) → ℕ → List ℕ
rows_in index lists x = chosen (slice_index_or index x []) (slice_get lists x)

abbrev pub AreLeadersIn : List Row → List (List ℕ) → List (Option (Vec ℕ Global)) → Type 0
AreLeadersIn rows index lists = (x : ℕ) → AreLeaders rows (slice_index_or index x []) (rows_in index lists x)

abbrev pub AreLeadersOf : Tables → List (List ℕ) → Leaders → Type 0
AreLeadersOf t index leaders = AreLeadersIn t.rows index leaders.lists.items
