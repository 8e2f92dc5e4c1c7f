-- Where negations took back nothing.
use Rattle.std.specs.Prelude.{◌≡◌, ◌<◌, ℕ, Bool, true, false, List, [], ◌∷◌, ◌++◌, length, map, AllPairs, replicate, if◌then◌else◌}
use Rattle.cf_types.specs.declared.instance.Instance.{Instance}
use Rattle.cf_types.specs.declared.stmt.Placed.{Placed}
use Rattle.cf_types.specs.declared.stmt.Stmt.{Stmt}
use Rattle.cf_types.specs.declared.stmt.Stmt.TheVariants as stmt
use Rattle.config_rules.specs.Fault.{stmts_of}
use Rattle.config_rules.specs.Meaning.{idle}

-- a negation of items by name
abbrev pub is_of_items : Stmt → Bool
is_of_items (stmt.NoItems kind names) = true
is_of_items _ = false

-- 1 where a negation of instances takes back nothing, else 0
abbrev pub idle_negations : List Stmt → Stmt → ℕ
idle_negations before s = if is_of_items s then 0 else length (idle before s)

-- how many names of a negation of items take back nothing
abbrev pub idle_names : List Stmt → Stmt → ℕ
idle_names before s = if is_of_items s then length (idle before s) else 0

-- the place of each statement, as often as is counted of it after those before it, in order
unfoldable pub places_of : (List Stmt → Stmt → ℕ) → List Stmt → List Stmt → List ℕ
places_of count before [] = []
places_of count before (s ∷ later) = replicate (count before s) (length before) ++ places_of count (before ++ s ∷ []) later

-- the places of the negations of instances that take back nothing, in order
abbrev pub ArePlacesOfNegations : List ℕ → List Placed → Type 0
ArePlacesOfNegations places placed = places ≡ places_of idle_negations [] (stmts_of placed)

-- the place of a negation of items once for each of its names that takes back nothing, in order
abbrev pub ArePlacesOfNames : List ℕ → List Placed → Type 0
ArePlacesOfNames places placed = places ≡ places_of idle_names [] (stmts_of placed)

-- the instances stand in the order of their statements
abbrev pub AreInOrder : List Instance → Type 0
AreInOrder insts = AllPairs (λ i j. i.stmt < j.stmt) insts

-- the places are those of the statements of these instances, which stand in their order
pub record ArePlacesOfOrphans (places : List ℕ) (orphans : List Instance) : Type 0 where
  pub each : places ≡ map (λ i. i.stmt) orphans
  pub in_order : AreInOrder orphans
