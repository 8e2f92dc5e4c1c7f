-- Which statements take items back.
use Rattle.std.specs.Prelude.{Bool, true, false}
use Rattle.cf_types.specs.declared.stmt.Stmt.{Stmt}
use Rattle.cf_types.specs.declared.stmt.Stmt.TheVariants as stmt

-- the statement is a negation of items
abbrev pub negates_items : Stmt → Bool
negates_items (stmt.NoItems kind names) = true
negates_items _ = false
