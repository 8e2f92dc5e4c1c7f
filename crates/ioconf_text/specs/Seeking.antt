-- Putting one line of several.
use Rattle.std.specs.Prelude.{◌≡◌, ℕ, Bool, true, false, Option, Some, None, List, ◌++◌}

-- the line was put behind what was there, or there is none
abbrev pub PutsLine : Option (List ℕ) → Bool → List ℕ → List ℕ → Type 0
PutsLine None more old new = (more ≡ false) × (new ≡ old)
PutsLine (Some line) more old new = (more ≡ true) × (new ≡ old ++ line)
