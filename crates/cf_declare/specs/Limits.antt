-- What the grammar of statements limits in what they declare.
use Rattle.std.specs.Prelude.{◌≤◌, List, [], length, unwrap_or, ⊤}
use Rattle.std.specs.List.{All}
use Rattle.cf_types.specs.declared.stmt.Stmt.{Stmt}
use Rattle.cf_types.specs.declared.stmt.Stmt.TheVariants as stmt
use Rattle.cf_types.specs.declared.tables.Attr.{Attr}

-- a statement has at most 16 locators in its braces
abbrev pub HasFewLocators : Stmt → Type 0
HasFewLocators (stmt.Define name locs needs) = length (unwrap_or locs []) ≤ 16
HasFewLocators (stmt.DefPseudo name locs needs) = length (unwrap_or locs []) ≤ 16
HasFewLocators (stmt.Device name locs needs) = length (unwrap_or locs []) ≤ 16
HasFewLocators _ = ⊤

-- so has each attribute
abbrev pub HaveFewLocators : List Attr → Type 0
HaveFewLocators attrs = All (λ x. length x.locs ≤ 16) attrs
