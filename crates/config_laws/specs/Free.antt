-- Statements that define nothing by the name `root`.
use Rattle.std.specs.Prelude.{◌≡◌, false, unwrap_or, ⊤}
use Rattle.cf_types.specs.declared.stmt.Stmt.{Stmt}
use Rattle.cf_types.specs.declared.stmt.Stmt.TheVariants as stmt
use Rattle.config_rules.specs.Declared.{is_root}

-- the attribute, device or attachment that a statement defines is not called `root`
abbrev pub IsFree : Stmt → Type 0
IsFree (stmt.Define name locs needs) = is_root name ≡ false
IsFree (stmt.Class name) = is_root name ≡ false
IsFree (stmt.DefPseudo name locs needs) = is_root name ≡ false
IsFree (stmt.Device name locs needs) = is_root name ≡ false
IsFree (stmt.Attach device places name needs) = is_root (unwrap_or name device) ≡ false
IsFree _ = ⊤
