-- Which groups of rows are on, as contracts see it.
use Rattle.std.specs.Prelude.{ℕ, List}

-- how many groups there are, and those that are on, the last one first
pub record Switches : Type 0 where
  pub count : ℕ
  pub on : List ℕ
