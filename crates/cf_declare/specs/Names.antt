-- The names that statements declare, as the key of their hash takes them.
use Rattle.std.specs.Prelude.{ℕ, ◌+◌, List, [], Option, Some, None, flat_map, if◌then◌else◌, length, map, nat_le}
use Rattle.std.specs.List.{sum_by}
use Rattle.std.specs.Option.{option_map_or}
use Rattle.cf_types.specs.declared.stmt.Placed.{Placed}
use Rattle.cf_types.specs.declared.stmt.Stmt.{Stmt}
use Rattle.cf_types.specs.declared.stmt.Stmt.TheVariants as stmt
use Rattle.cf_names.specs.Hash.{line_of}

-- the name of an attribute or a device, or the own name of an attachment, if it has one
abbrev pub new_name : Stmt → Option (List ℕ)
new_name (stmt.Define name locs needs) = Some name
new_name (stmt.Class name) = Some name
new_name (stmt.DefPseudo name locs needs) = Some name
new_name (stmt.Device name locs needs) = Some name
new_name (stmt.Attach device places name needs) = name
new_name _ = None

-- the line of that name
abbrev pub declared_line : Stmt → List ℕ
declared_line s = option_map_or line_of (new_name s) []

-- the lines of all names
abbrev pub declared_lines : List Stmt → List ℕ
declared_lines stmts = flat_map declared_line stmts

-- how many names of attributes, devices and attachments a statement has
abbrev pub name_count : Stmt → ℕ
name_count (stmt.Define name locs needs) = 1 + length needs
name_count (stmt.Class name) = 1
name_count (stmt.DefPseudo name locs needs) = 1 + length needs
name_count (stmt.Device name locs needs) = 1 + length needs
name_count (stmt.Attach device places name needs) = 2 + length places + length needs
name_count (stmt.Inst base mark at pairs flags) = 2
name_count (stmt.PseudoDevice name count) = 1
name_count _ = 0

-- the key of the hash of names: nothing for statements that have few names, else the lines of those that they declare
abbrev pub key_of : List Placed → List ℕ
key_of placed = if nat_le (sum_by (λ p. name_count p.stmt) placed) 4096 then [] else declared_lines (map (λ p. p.stmt) placed)
