-- Rows by which the best one for a spot is found, once the devices and the parent are known.
use Rattle.std.specs.Prelude.{◌≡◌, ◌<◌, ◌-◌, ℕ, Bool, true, false, ◌&&◌, nat_lt, List, [], length, find, slice_get, Option, Some, None, option_map}
use Rattle.std.specs.List.{slice_index_or}
use Rattle.std.specs.Option.{ForSome}
use Rattle.cf_types.specs.declared.machine.Machine.{Machine}
use Rattle.cf_types.specs.declared.tables.ParentSpec.{ParentSpec}
use Rattle.cf_types.specs.declared.tables.Place.{Place}
use Rattle.cf_types.specs.declared.tables.Row.{Row}
use Rattle.cf_types.specs.declared.tables.Tables.{Tables}
use Rattle.cf_types.specs.Locators.{locators_at, submatch}
use Rattle.run_rules.specs.Search.{found_at}
use Rattle.run_rules.specs.Suits.{is_better, suits, worth}
use Rattle.run_rules.specs.World.{same_place}
use Rattle.plain_rows.specs.declared.suited.Candidate.{Candidate}

-- a row that has this match value at the spot suits it at the place
abbrev pub suits_by : Tables → Machine → Place → ℕ → Row → ℕ → Bool
suits_by t m place x row value = same_place row.place place && nat_lt 0 value && submatch (locators_at t.attrs place) row.locs (found_at m x)

-- a row with its match value
abbrev pub candidate : Tables → Machine → ℕ → ℕ → Candidate
candidate t m x r = record { value = record { 0 = worth t m r x }; row = r }

-- what decides whether a row is open, once the devices and the parent are known: its driver, its unit, whether it is starred, and the
-- parent that it names
abbrev pub key_of : Tables → ℕ → Option (ℕ × ℕ × Bool × Option ParentSpec)
key_of t r = option_map (λ row. (row.device, row.unit, row.star, row.parent)) (slice_get t.rows r)

-- the candidate at a place of a list is alike to the one before it
abbrev pub RepeatsAt : Tables → List Candidate → ℕ → Type 0
RepeatsAt t list place = (0 < place) × ((c d : Candidate) → key_of t (slice_index_or list (place - 1) c).row ≡ key_of t (slice_index_or list place d).row)

-- a test answers alike for rows that are alike
abbrev pub TellsAlike : Tables → (ℕ → Bool) → Type 0
TellsAlike t p = (q r : ℕ) → key_of t q ≡ key_of t r → p q ≡ p r

-- by such a test the same row is found in two lists
abbrev pub FindsAlike : Tables → List ℕ → List ℕ → Type 0
FindsAlike t all rows = (p : ℕ → Bool) → TellsAlike t p → find p rows ≡ find p all

-- by such a test the first that passes suits the spot at the place, and no row that suits it and passes is better; where none passes, no row
-- that suits it does
pub record FindsBest (t : Tables) (m : Machine) (place : Place) (x : ℕ) (rows : List ℕ) : Type 0 where
  pub none : (p : ℕ → Bool) → TellsAlike t p → find p rows ≡ None → (r : ℕ) → suits t m place x r ≡ true → p r ≡ false
  pub suited : (p : ℕ → Bool) → TellsAlike t p → (b : ℕ) → find p rows ≡ Some b → suits t m place x b ≡ true
  pub passes : (p : ℕ → Bool) → TellsAlike t p → (b : ℕ) → find p rows ≡ Some b → p b ≡ true
  pub best : (p : ℕ → Bool) → TellsAlike t p → (b : ℕ) → find p rows ≡ Some b → (r : ℕ) → suits t m place x r ≡ true → p r ≡ true → is_better t m x r b ≡ false

-- for each spot rows by which the best at its own place is found
pub record AreSuited (t : Tables) (m : Machine) (lists : List (List ℕ)) : Type 0 where
  pub spots : length lists ≡ length m.spots
  pub rows : (x : ℕ) → ForSome (slice_get m.spots x) (λ spot. FindsBest t m spot.place x (slice_index_or lists x []))
