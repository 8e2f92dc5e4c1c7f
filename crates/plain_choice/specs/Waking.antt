-- Which devices a resumption may find above its target.
use Rattle.std.specs.Prelude.{◌≡◌, ℕ, ◌%◌, Bool, false, List}
use Rattle.std.specs.List.{slice_index_or}
use Rattle.run_rules.specs.declared.world.Dev.{Dev}
use Rattle.run_rules.specs.World.{is_under}

-- where no mark is, the target is not below the device
abbrev pub AreMarked : List Dev → ℕ → List Bool → Type 0
AreMarked live target marks = (s : ℕ) → slice_index_or marks (s % 1024) false ≡ false → is_under live s target ≡ false
