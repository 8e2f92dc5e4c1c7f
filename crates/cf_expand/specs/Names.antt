-- The names that statements declare, as a set of them has them.
use Rattle.std.specs.Prelude.{◌≡◌, ℕ, Bool, List, Option, Some, None, Vec}
use Rattle.std.specs.BTreeSet.{BTreeSet, contains_by}
use Rattle.std.specs.Cmp.Lexicographic.{slice_cmp}
use Rattle.std.specs.Global.{Global}
use Rattle.std.specs.Ordering.{nat_cmp}
use Rattle.cf_types.specs.declared.stmt.Placed.{Placed}
use Rattle.cf_types.specs.declared.stmt.Stmt.{Stmt}
use Rattle.cf_types.specs.declared.stmt.Stmt.TheVariants as stmt
use Rattle.config_rules.specs.Reading.{is_declared}

-- the name of the attribute or the device that a statement declares
abbrev pub declared_name : Stmt → Option (List ℕ)
declared_name (stmt.Define n locs needs) = Some n
declared_name (stmt.Class n) = Some n
declared_name (stmt.DefPseudo n locs needs) = Some n
declared_name (stmt.Device n locs needs) = Some n
declared_name _ = None

-- the set has a name
abbrev pub has : BTreeSet (Vec ℕ Global) → List ℕ → Bool
has names name = contains_by (λ k. slice_cmp nat_cmp name k.items) names

-- the set has the names that the statements declare, and no others
abbrev pub AreNamesOf : List Placed → BTreeSet (Vec ℕ Global) → Type 0
AreNamesOf placed names = (name : List ℕ) → has names name ≡ is_declared placed name
