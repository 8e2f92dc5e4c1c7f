-- What judging a statement finds.
use Rattle.std.specs.Prelude.{◌≡◌, ℕ, Option, Some, None, Result, Ok, Err}
use Rattle.config_rules.specs.Declared.{Declared}

-- the code, where there is one, or else this value
abbrev pub Judges : {A : Type 0} → Option ℕ → A → Result A ℕ → Type 0
Judges fault value (Ok found) = (fault ≡ None) × (found ≡ value)
Judges fault value (Err code) = fault ≡ Some code

-- what was declared is as before, if there is a code, or else with more
abbrev pub Takes : Option ℕ → Declared → Declared → Declared → Option ℕ → Type 0
Takes fault old more new None = (fault ≡ None) × (new ≡ more)
Takes fault old more new (Some code) = (fault ≡ Some code) × (new ≡ old)
