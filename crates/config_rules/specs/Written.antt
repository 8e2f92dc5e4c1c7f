-- What the grammar limits in definitions, attachments and instances, and how many statements are placed at most; what
-- other statements hold is not said here. A name may still be `root`: a place may have that name, and a definition of it
-- is refused later.
use Rattle.std.specs.Prelude.{◌≡◌, ◌≤◌, ℕ, true, false, List, [], length, Option, unwrap_or, IfSome, All, ⊤}
use Rattle.cf_types.specs.declared.stmt.Placed.{Placed}
use Rattle.cf_types.specs.declared.stmt.Stmt.{Stmt}
use Rattle.cf_types.specs.declared.stmt.Stmt.TheVariants as stmt
use Rattle.cf_types.specs.declared.stmt.UnitMark.{UnitMark}
use Rattle.cf_types.specs.declared.stmt.UnitMark.TheVariants.{Fixed, Star}
use Rattle.cf_types.specs.declared.tables.Locator.{Locator}
use Rattle.cf_text.specs.Shapes.{ends_with_digit, is_written}

-- a name of at most 63 bytes
abbrev pub IsName : List ℕ → Type 0
IsName name = is_written name ≡ true

-- at most 16 locators in braces, each with a name
abbrev pub AreLocators : Option (List Locator) → Type 0
AreLocators locs = (length (unwrap_or locs []) ≤ 16) × All (λ l. IsName l.name) (unwrap_or locs [])

-- a unit is at most 65,535
abbrev pub IsUnit : UnitMark → Type 0
IsUnit (Fixed unit) = unit ≤ 65535
IsUnit Star = ⊤

-- what a statement defines, and what it names of that, is written as a name; a device's name does not end with a digit
abbrev pub IsWritten : Stmt → Type 0
IsWritten (stmt.Define name locs needs) = IsName name × AreLocators locs × All IsName needs
IsWritten (stmt.Class name) = IsName name
IsWritten (stmt.DefPseudo name locs needs) = IsName name × AreLocators locs × All IsName needs
IsWritten (stmt.Device name locs needs) = IsName name × (ends_with_digit name ≡ false) × AreLocators locs × All IsName needs
IsWritten (stmt.Attach device places name needs) = IsName device × All IsName places × IfSome name IsName × All IsName needs
IsWritten (stmt.Inst base mark at pairs flags) = IsName base × IsUnit mark
IsWritten _ = ⊤

-- at most 65,536 statements are placed, and each of them is written so
pub record AreWritten (placed : List Placed) : Type 0 where
  pub few : length placed ≤ 65536
  pub each : All (λ p. IsWritten p.stmt) placed
