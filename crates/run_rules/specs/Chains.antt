-- Chains of parents that never meet a target.
use Rattle.std.specs.Prelude.{◌≡◌, ℕ, ◌<◌, false, List}
use Rattle.std.specs.List.{slice_index_or}
use Rattle.run_rules.specs.declared.world.Dev.{Dev}
use Rattle.run_rules.specs.World.{has, lineage}

-- the chain of parents that begins with this serial never meets the target, however long it is
abbrev pub NeverMeets : List Dev → ℕ → ℕ → Type 0
NeverMeets live target s = (k : ℕ) → has (lineage k live s) target ≡ false

-- nor does that of any serial that is kept
abbrev pub AllMiss : List Dev → ℕ → List ℕ → Type 0
AllMiss live target kept = (i : ℕ) → 0 < slice_index_or kept i 0 → NeverMeets live target (slice_index_or kept i 0)
