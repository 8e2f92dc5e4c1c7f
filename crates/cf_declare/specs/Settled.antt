-- Statements that name only what is declared before them.
use Rattle.std.specs.Prelude.{◌≡◌, ℕ, Bool, true, ◌&&◌, ◌||◌, List, take, filter_map, slice_get, Some, is_some}
use Rattle.std.specs.List.{list_all}
use Rattle.cf_types.specs.declared.stmt.Stmt.{Stmt}
use Rattle.cf_types.specs.declared.stmt.Stmt.TheVariants as stmt
use Rattle.cf_types.specs.Lookups.{place_of_name}
use Rattle.config_rules.specs.Declared.{is_root, attr_name, device_name}

-- a name is among these
abbrev pub is_among : List (List ℕ) → List ℕ → Bool
is_among names name = is_some (place_of_name names name)

-- all of these are
abbrev pub are_among : List (List ℕ) → List (List ℕ) → Bool
are_among names wanted = list_all (is_among names) wanted

-- a statement names attributes and devices among these alone; a place may also be the root
abbrev pub names_among : List (List ℕ) → List (List ℕ) → Stmt → Bool
names_among attrs devices (stmt.Define name locs needs) = are_among attrs needs
names_among attrs devices (stmt.DefPseudo name locs needs) = are_among attrs needs
names_among attrs devices (stmt.Device name locs needs) = are_among attrs needs
names_among attrs devices (stmt.Attach device places name needs) =
    is_among devices device && (list_all (λ place. is_root place || is_among attrs place) places && are_among attrs needs)
names_among attrs devices _ = true

-- each statement names attributes and devices that are declared before it
pub record Settled (stmts : List Stmt) : Type 0 where
  pub earlier : (i : ℕ) (s : Stmt) → slice_get stmts i ≡ Some s
      → names_among (filter_map attr_name (take i stmts)) (filter_map device_name (take i stmts)) s ≡ true
