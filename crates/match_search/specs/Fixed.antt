-- The rows without a star by device and unit, and which rows are live once a device has come or gone.
use Rattle.std.specs.Prelude.{◌≡◌, ◌<◌, ◌+◌, ◌%◌, ℕ, Bool, true, false, ◌==◌, ◌&&◌, not, if◌then◌else◌, List, [], map, zip, length, slice_get, Vec}
use Rattle.std.specs.Global.{Global}
use Rattle.std.specs.List.{slice_index_or}
use Rattle.std.specs.Option.{option_map_or}
use Rattle.cf_types.specs.declared.tables.Row.{Row}
use Rattle.cf_types.specs.Gather.{is_in}

-- a row of this device and unit that is not starred
abbrev pub hits : Row → ℕ → ℕ → Bool
hits r device unit = not r.star && (device == r.device && unit == r.unit)

abbrev pub hits_at : List Row → ℕ → ℕ → ℕ → Bool
hits_at rows r device unit = option_map_or (λ row. hits row device unit) (slice_get rows r) false

-- the truth values of rows, where those of this device and unit say whether they are live, and each other one what it said
abbrev pub rows_set : List Row → List Bool → ℕ → ℕ → Bool → List Bool
rows_set rows marks device unit live = map (λ p. if hits p.0 device unit then live else p.1) (zip rows marks)

-- the place of the list of a device and a unit
abbrev pub place_in : ℕ → ℕ → ℕ → ℕ
place_in count device unit = (device + unit) % count

abbrev pub fixed_in : List (List ℕ) → ℕ → ℕ → List ℕ
fixed_in lists device unit = slice_index_or lists (place_in (length lists) device unit) []

abbrev pub lists_of : List (Vec ℕ Global) → List (List ℕ)
lists_of lists = map (λ list. list.items) lists

-- each row of a device and a unit that is not starred is in their list
pub record AreFixed (rows : List Row) (lists : List (List ℕ)) : Type 0 where
  pub some : 0 < length lists
  pub all : (r device unit : ℕ) → hits_at rows r device unit ≡ true → is_in r (fixed_in lists device unit) ≡ true

-- the lists have a row too, if it is not starred
pub record HasToo (old new : List (List ℕ)) (number : ℕ) (row : Row) : Type 0 where
  pub count : length new ≡ length old
  pub kept : (r device unit : ℕ) → is_in r (fixed_in old device unit) ≡ true → is_in r (fixed_in new device unit) ≡ true
  pub more : (device unit : ℕ) → hits row device unit ≡ true → is_in number (fixed_in new device unit) ≡ true
