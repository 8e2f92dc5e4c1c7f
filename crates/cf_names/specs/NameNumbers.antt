-- The numbers of names, as a map has them.
use Rattle.std.specs.Prelude.{◌≡◌, ℕ, List, Option, bytes_eq, position}
use Rattle.indexmap.specs.IndexMap.{IndexMap, get_by}
use Rattle.cf_names.specs.declared.hash.NameHash.{NameHash}

-- a map from names to numbers
abbrev pub NameNumbers : Type 0
NameNumbers = IndexMap (List ℕ) ℕ NameHash

-- the number that a map has for a name
abbrev pub number_in : NameNumbers → List ℕ → Option ℕ
number_in numbers name = get_by (bytes_eq name) numbers

-- for each of these names the map has the number of the first that is the same, and none for another
abbrev pub AreNumbers : NameNumbers → List (List ℕ) → Type 0
AreNumbers numbers names = (q : List ℕ) → number_in numbers q ≡ position (λ n. bytes_eq n q) names
