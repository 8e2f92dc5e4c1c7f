-- Lists of places by key.
use Rattle.std.specs.Prelude.{ℕ, Bool, List, []}
use Rattle.std.specs.Option.{unwrap_or}
use Rattle.std.specs.HashMap.{HashMap, get}
use Rattle.cf_types.specs.Gather.{is_in}

-- the places of a key
abbrev pub list_at : {K S : Type 0} → (K → K → Bool) → HashMap K (List ℕ) S → K → List ℕ
list_at eq lists key = unwrap_or (get eq lists key) []

-- the place is among those of a key
abbrev pub holds : {K S : Type 0} → (K → K → Bool) → HashMap K (List ℕ) S → K → ℕ → Bool
holds eq lists key place = is_in place (list_at eq lists key)
