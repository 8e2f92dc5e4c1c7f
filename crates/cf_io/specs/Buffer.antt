-- A sink over another one, that holds more back.
use Rattle.std.specs.Prelude.{ℕ, List, ◌++◌}
use Rattle.cf_io.specs.Told.{Told}

-- what the sink below took, and what is held here
pub record Buffer : Type 0 where
  pub below : Told
  pub held : List ℕ

-- what both took
abbrev pub told_of : Buffer → Told
told_of b = record b.below { held = b.below.held ++ b.held }
