-- How selecting sources ends.
use Rattle.std.specs.Prelude.{◌≡◌, ℕ, ◌≤◌, ◌⊎◌, Bool, if◌then◌else◌, Option, Some, None, IfSome, is_some, Result, Ok, Err, List, [], ◌∷◌, ◌++◌, ⊤}
use Rattle.cf_types.specs.declared.stmt.Expanded.{Expanded}
use Rattle.cf_types.specs.declared.stmt.Piece.{Piece}
use Rattle.cf_types.specs.declared.stmt.Placed.{Placed}
use Rattle.cf_compile.specs.declared.stop.CompileStop.{CompileStop}
use Rattle.cf_compile.specs.declared.stop.CompileStop.TheVariants.{Refused, ReadFault, Memory}
use Rattle.cf_io.specs.Faults.{Rose}
use Rattle.config_rules.specs.Fault.{first_fault}
use Rattle.config_rules.specs.Reading.{Files, reading}
use Rattle.config_rules.specs.Select.{has_name}
use Rattle.file_rules.specs.Sources.{HasCode, IsFirstBad, IsFirstFault, IsSource, Selects, SelectsIn, Source, is_selected}

-- one more path behind those that are selected, unless it is one of them
abbrev pub with_path : List (List ℕ) → List ℕ → List (List ℕ)
with_path paths path = if has_name paths path then paths else paths ++ path ∷ []

-- the paths that the statements select, or the first of them that has a code
abbrev pub SelectsPlaced : (List ℕ → Bool) → List (List ℕ) → List Placed → Result (List (List ℕ)) CompileStop → Type 0
SelectsPlaced test files placed (Ok paths) = SelectsIn test placed paths
SelectsPlaced test files placed (Err (Refused refusal)) = IsFirstBad files placed refusal
SelectsPlaced test files placed (Err ReadFault) = ⊥
SelectsPlaced test files placed (Err Memory) = ⊤

-- the paths behind one more statement, or its code
abbrev pub Takes : (List ℕ → Bool) → List Piece → List (List ℕ) → Option ℕ → List (List ℕ) → Type 0
Takes test ps paths (Some code) new = HasCode ps code
Takes test ps paths None new = (s : Source) × IsSource ps s × (new ≡ (if is_selected test s then with_path paths s.path else paths))

-- the same where it need not be a `file` statement
abbrev pub TakesOptional : (List ℕ → Bool) → Option (List Piece) → List (List ℕ) → Option ℕ → List (List ℕ) → Type 0
TakesOptional test None paths code new = (code ≡ None) × (new ≡ paths)
TakesOptional test (Some ps) paths code new = Takes test ps paths code new

-- what was read gives the paths, its fault, or the first statement that has a code
abbrev pub SelectsRead : (List ℕ → Bool) → Expanded → Result (List (List ℕ)) CompileStop → Type 0
SelectsRead test read (Ok paths) = (read.fault ≡ None) × SelectsIn test read.placed paths
SelectsRead test read (Err (Refused refusal)) = (read.fault ≡ Some refusal) ⊎ ((read.fault ≡ None) × IsFirstBad read.files read.placed refusal)
SelectsRead test read (Err ReadFault) = ⊥
SelectsRead test read (Err Memory) = ⊤

-- where the files are told, these are the paths that the configuration selects, or the refusal is the first fault; the count
-- of faults of reading rose exactly where a file could not be read, or stands at its last value
abbrev pub SelectsFrom : Option Files → List ℕ → ℕ → ℕ → Result (List (List ℕ)) CompileStop → Type 0
SelectsFrom told name before after (Ok paths) = IfSome told (λ files. Selects files name paths) × (after ≡ before)
SelectsFrom told name before after (Err (Refused refusal)) = IfSome told (λ files. IsFirstFault files name refusal) × (after ≡ before)
SelectsFrom told name before after (Err ReadFault) = (before ≤ after) × Rose before after
SelectsFrom told name before after (Err Memory) = after ≡ before

-- the files that selecting asks for: those of the configuration, and once more where it is accepted
abbrev pub asked_for : Files → List ℕ → List (List ℕ)
asked_for files name =
    let asked = (reading files name).asked in if is_some (first_fault files name) then asked else asked ++ asked
