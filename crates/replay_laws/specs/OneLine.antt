-- Texts without a newline, and tables whose words have none.
use Rattle.std.specs.Prelude.{◌≡◌, ℕ, Bool, true, not, ◌==◌, List, All, IfSome}
use Rattle.std.specs.List.{list_all}
use Rattle.cf_types.specs.declared.stmt.Item.{Item}
use Rattle.cf_types.specs.declared.tables.Tables.{Tables}

-- no byte is a newline
abbrev pub is_one_line : List ℕ → Bool
is_one_line text = list_all (λ b. not (b == 10)) text

abbrev pub IsOneLine : List ℕ → Type 0
IsOneLine text = is_one_line text ≡ true

-- an option with its value
abbrev pub IsItemLine : Item → Type 0
IsItemLine i = IsOneLine i.name × IfSome i.value IsOneLine

-- the words of formed tables of which nothing else is known: each is within one line. Those of a configuration are, where
-- the name of its file is (`MeansLines`)
pub record AreOneLine (t : Tables) : Type 0 where
  pub locators : All (λ a. All (λ l. IsOneLine l.name) a.locs) t.attrs
  pub pseudos : All (λ p. IsOneLine p.name) t.pseudos
  pub options : All IsItemLine t.options
  pub makeoptions : All IsItemLine t.makeoptions
  pub file_systems : All IsOneLine t.file_systems
  pub warnings : All (λ w. IsOneLine w.file) t.warnings
