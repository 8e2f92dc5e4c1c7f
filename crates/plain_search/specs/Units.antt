-- Units of a driver, counted from a first one on.
use Rattle.std.specs.Prelude.{◌≡◌, ◌<◌, ◌+◌, ◌==◌, ◌&&◌, ℕ, Bool, false, Option, MatchOption}

-- how far a unit is from the first one, if it is meant and one of so many from there on
abbrev pub IsDistance : Bool → ℕ → ℕ → ℕ → Option ℕ → Type 0
IsDistance meant unit first count far =
    MatchOption far ((k : ℕ) → k < count → (meant && unit == first + k) ≡ false) (λ j. (j < count) × ((k : ℕ) → (meant && unit == first + k) ≡ (j == k)))
