-- The next line of a text that is put line by line.
use Rattle.std.specs.Prelude.{◌≡◌, ℕ, ◌<◌, ◌≤◌, Bool, true, false, List, [], length}
use Rattle.std.specs.List.{slice_index_or}
use Rattle.cf_types.specs.Lines.{ended}

-- it is the line at a place with its newline, or there is none
abbrev pub IsNextLine : List (List ℕ) → ℕ → Bool → List ℕ → Type 0
IsNextLine lines n false line = length lines ≤ n
IsNextLine lines n true line = (n < length lines) × (line ≡ ended (slice_index_or lines n []))
