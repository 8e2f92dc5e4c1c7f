-- What is said of an instance that is not in the tables.
use Rattle.std.specs.Prelude.{ℕ, List, [], ◌++◌, map, slice_get, Option, Some, None, codes, decimal}
use Rattle.std.specs.List.{slice_index_or}
use Rattle.std.specs.Option.{option_map_or}
use Rattle.cf_types.specs.declared.stmt.AtSpec.{AtSpec}
use Rattle.cf_types.specs.declared.stmt.AtSpec.TheVariants.{Root, Named}
use Rattle.cf_types.specs.declared.stmt.Placed.{Placed}
use Rattle.cf_types.specs.declared.stmt.Stmt.{Stmt}
use Rattle.cf_types.specs.declared.stmt.Stmt.TheVariants.{Inst, NoInst, NoDevice}
use Rattle.cf_types.specs.declared.stmt.UnitMark.{UnitMark}
use Rattle.cf_types.specs.declared.stmt.UnitMark.TheVariants.{Fixed, Star}
use Rattle.gone_rows.specs.Gone.{Stated, gone_places, taken_at}

-- ---- a statement as it is written

abbrev pub mark_text : UnitMark → List ℕ
mark_text (Fixed unit) = decimal unit
mark_text Star = codes "*"

abbrev pub unit_text : Option ℕ → List ℕ
unit_text unit = option_map_or decimal unit (codes "?")

abbrev pub at_text : AtSpec → List ℕ
at_text Root = codes " at root"
at_text (Named base unit) = codes " at " ++ base ++ unit_text unit

abbrev pub negated_text : Option AtSpec → List ℕ
negated_text at = option_map_or at_text at []

-- an instance without its locators, or a negation of instances
abbrev pub statement_text : Stmt → List ℕ
statement_text (Inst base mark at pairs flags) = base ++ mark_text mark ++ at_text at
statement_text (NoInst base mark at) = codes "no " ++ base ++ mark_text mark ++ negated_text at
statement_text (NoDevice at) = codes "no device" ++ at_text at
statement_text _ = []

-- the file and line of a statement
abbrev pub where_text : List (List ℕ) → Placed → List ℕ
where_text files p = codes " (" ++ slice_index_or files p.file [] ++ codes ":" ++ decimal p.line ++ codes ")"

abbrev pub placed_text : List (List ℕ) → Placed → List ℕ
placed_text files p = statement_text p.stmt ++ where_text files p

-- ---- why it is not in the tables

-- the negation that took it back; else it is an orphan
abbrev pub reason_text : List (List ℕ) → Option Placed → List ℕ
reason_text files (Some n) = codes ": taken back by " ++ placed_text files n
reason_text files None = codes ": an orphan, without a parent that leads to the root"

abbrev pub gone_text : List (List ℕ) → List Placed → ℕ → List ℕ
gone_text files placed i = option_map_or (λ p. placed_text files p ++ reason_text files (taken_at placed i)) (slice_get placed i) []

-- a line for each instance of the word that is gone
abbrev pub gone_lines : Stated → List ℕ → List (List ℕ)
gone_lines s word = map (gone_text s.files s.placed) (gone_places s word)
