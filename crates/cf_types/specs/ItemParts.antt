-- A list of items in parts.
use Rattle.std.specs.Prelude.{◌≡◌, ℕ, ◌+◌, ◌<◌, List, [], ◌∷◌, ◌++◌, length, take}
use Rattle.std.specs.Prelude.{slice_index_or}
use Rattle.cf_types.specs.declared.item_list.Part.{Part}
use Rattle.cf_types.specs.declared.stmt.Item.{Item}

-- those of all parts
abbrev pub items_in : List Part → List Item
items_in [] = []
items_in (p ∷ ps) = p.items ++ items_in ps

-- each part says how many items there are up to its end
abbrev pub AreEnds : List Part → Type 0
AreEnds ps = (k : ℕ) (d : Part) → k < length ps → (slice_index_or ps k d).end ≡ length (items_in (take (k + 1) ps))
