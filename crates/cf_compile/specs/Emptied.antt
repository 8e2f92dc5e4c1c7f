-- Statements whose tokens are not kept.
use Rattle.std.specs.Prelude.{List, [], if◌then◌else◌, length, map, nat_le}
use Rattle.cf_types.specs.declared.stmt.Placed.{Placed}
use Rattle.cf_types.specs.declared.stmt.Stmt.{Stmt}
use Rattle.cf_types.specs.declared.stmt.Stmt.TheVariants as stmt

-- a statement that may have any tokens, without them; another as it is
abbrev pub emptied : Stmt → Stmt
emptied (stmt.Free word rest) = stmt.Free word []
emptied s = s

-- in the place where it is read
abbrev pub emptied_at : Placed → Placed
emptied_at p = record p { stmt = emptied p.stmt }

-- statements as they are where they are few, else without their tokens
abbrev pub lightened : List Placed → List Placed
lightened placed = if nat_le (length placed) 4096 then placed else map emptied_at placed
