-- What asking for a file gave.
use Rattle.std.specs.Prelude.{◌≡◌, ℕ, ◌<◌, ◌≤◌, List, length, Option, Some, None, ⊤}
use Rattle.cf_expand.specs.declared.open.Loaded.{Loaded}
use Rattle.cf_expand.specs.declared.open.Loaded.TheVariants as loaded

-- a text is no longer than a file may be
abbrev pub IsShort : Loaded → Type 0
IsShort (loaded.Text text) = length text.items ≤ 1048576
IsShort loaded.Absent = ⊤
IsShort loaded.TooLong = ⊤

-- it is what this file gives
abbrev pub IsLoaded : Option (List ℕ) → Loaded → Type 0
IsLoaded file (loaded.Text text) = file ≡ Some text.items
IsLoaded file loaded.Absent = file ≡ None
IsLoaded file loaded.TooLong = (bytes : List ℕ) × (file ≡ Some bytes) × (1048576 < length bytes)
