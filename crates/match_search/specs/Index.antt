-- The rows that suit each spot, and which of them are open to a parent.
use Rattle.std.specs.Prelude.{◌≡◌, ℕ, Bool, false, ◌&&◌, List, [], length, slice_get}
use Rattle.std.specs.List.{slice_index_or}
use Rattle.std.specs.Option.{option_map_or, ForSome}
use Rattle.cf_types.specs.declared.machine.Machine.{Machine}
use Rattle.cf_types.specs.declared.tables.Tables.{Tables}
use Rattle.run_rules.specs.declared.world.ParentRef.{ParentRef}
use Rattle.run_rules.specs.Search.{names_parent}
use Rattle.run_rules.specs.Suits.{AreBestFirst, worth}
use Rattle.match_search.specs.declared.index.Candidate.{Candidate}

-- a row with its match value
abbrev pub candidate : Tables → Machine → ℕ → ℕ → Candidate
candidate t m x r = record { value = record { 0 = worth t m r x }; row = r }

-- for each spot the rows that suit it at its own place, the best first
pub record IsIndexOf (t : Tables) (m : Machine) (index : List (List ℕ)) : Type 0 where
  pub spots : length index ≡ length m.spots
  pub rows : (x : ℕ) → ForSome (slice_get m.spots x) (λ spot. AreBestFirst t m spot.place x (slice_index_or index x []))

-- the row is marked live, and names this parent or none
abbrev pub is_open_to : Tables → List Bool → ParentRef → ℕ → Bool
is_open_to t live p r = slice_index_or live r false && option_map_or (λ row. names_parent row.parent p) (slice_get t.rows r) false
