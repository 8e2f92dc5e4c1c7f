-- Which devices have no children.
use Rattle.std.specs.Prelude.{◌≡◌, ◌≢◌, ℕ, ◌<◌, Bool, false, true, List, length}
use Rattle.std.specs.List.{AllByRecursion, slice_index_or}
use Rattle.run_rules.specs.declared.world.Dev.{Dev}

-- no device has this one for its parent
abbrev pub IsBare : List Dev → ℕ → Type 0
IsBare live s = AllByRecursion (λ d. d.parent ≢ s) live

-- one mark for each device; where it is set, the device has no children
pub record AreBare (live : List Dev) (bare : List Bool) : Type 0 where
  pub count : length bare ≡ length live
  pub each : (i : ℕ) (d : Dev) → i < length live → slice_index_or bare i false ≡ true → IsBare live (slice_index_or live i d).serial

-- the mark of the device of this serial is gone, and no mark is new
abbrev pub AreUnmarked : List Dev → ℕ → List Bool → List Bool → Type 0
AreUnmarked live s old new = (i : ℕ) (d : Dev) → i < length live → slice_index_or new i false ≡ true
    → (slice_index_or old i false ≡ true) × ((slice_index_or live i d).serial ≢ s)
