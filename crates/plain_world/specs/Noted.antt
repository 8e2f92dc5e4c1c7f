-- What is noted at some places of a list.
use Rattle.std.specs.Prelude.{◌≡◌, ℕ, List, Option, Some, None}
use Rattle.std.specs.List.{slice_index_or}

-- all that is noted is so
abbrev pub AllNoted : {A : Type 0} → (A → Type 0) → List (Option A) → Type 0
AllNoted P noted = (i : ℕ) (a : _) → slice_index_or noted i None ≡ Some a → P a
