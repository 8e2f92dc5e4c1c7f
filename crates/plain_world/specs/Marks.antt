-- Which spots of a list are marked.
use Rattle.std.specs.Prelude.{◌≡◌, ℕ, Bool, false, List}
use Rattle.std.specs.List.{slice_index_or}
use Rattle.run_rules.specs.World.{has}

-- a spot is marked exactly if it is in the list
abbrev pub AreMarked : List ℕ → List Bool → Type 0
AreMarked spots marks = (x : ℕ) → slice_index_or marks x false ≡ has spots x
