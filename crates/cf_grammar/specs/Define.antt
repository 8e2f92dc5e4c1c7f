-- The statement that a name, its locators and its attributes make.
use Rattle.std.specs.Prelude.{ℕ, List, Option}
use Rattle.cf_types.specs.declared.stmt.Stmt.{Stmt}
use Rattle.cf_types.specs.declared.stmt.Stmt.TheVariants as stmt
use Rattle.cf_types.specs.declared.tables.Locator.{Locator}
use Rattle.cf_grammar.specs.declared.define.Defines.{Defines}
use Rattle.cf_grammar.specs.declared.define.Defines.TheVariants.{Attribute, PseudoDevice, Device}

abbrev pub made : Defines → List ℕ → Option (List Locator) → List (List ℕ) → Stmt
made Attribute = stmt.Define
made PseudoDevice = stmt.DefPseudo
made Device = stmt.Device
