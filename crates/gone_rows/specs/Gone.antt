-- Which instances of a configuration are not in its tables, and what took them back.
use Rattle.std.specs.Prelude.{ℕ, Bool, true, false, ◌&&◌, ◌||◌, ◌==◌, ◌+◌, List, drop, filter, find, length, take, slice_get, bytes_eq, Option, is_some}
use Rattle.std.specs.Option.{option_and_then, option_map_or}
use Rattle.cf_text.specs.declared.unit.Split.{Split}
use Rattle.cf_text.specs.declared.unit.Split.TheVariants as split
use Rattle.cf_text.specs.Split.{split_of}
use Rattle.cf_types.specs.Gather.{is_in}
use Rattle.cf_types.specs.Numbers.{below}
use Rattle.cf_types.specs.declared.stmt.Placed.{Placed}
use Rattle.cf_types.specs.declared.stmt.Stmt.{Stmt}
use Rattle.cf_types.specs.declared.stmt.Stmt.TheVariants.{Inst}
use Rattle.cf_types.specs.declared.stmt.UnitMark.{UnitMark}
use Rattle.cf_types.specs.declared.stmt.UnitMark.TheVariants.{Fixed, Star}
use Rattle.config_rules.specs.Select.{names}
use Rattle.gone_rows.specs.declared.gone.Statements.{Statements}

-- the files and statements of a configuration, and the places of its orphans
pub record Stated : Type 0 where
  pub files : List (List ℕ)
  pub placed : List Placed
  pub orphans : List ℕ

abbrev pub stated_by : Statements → Stated
stated_by s = record { files = s.files.now; placed = s.placed.now; orphans = s.orphans.now }

-- ---- which instances a word names

-- so many bytes of the word are the name
abbrev pub begins : List ℕ → ℕ → List ℕ → Bool
begins word cut name = bytes_eq (take cut word) name

-- a star has each unit
abbrev pub has_unit : UnitMark → ℕ → Bool
has_unit (Fixed own) unit = own == unit
has_unit Star unit = true

abbrev pub is_star : UnitMark → Bool
is_star (Fixed own) = false
is_star Star = true

-- the word is the driver with a unit that the instance has, or with its star
abbrev pub is_meant : List ℕ → List ℕ → UnitMark → Split → Bool
is_meant word base mark (split.Unit cut unit) = begins word cut base && has_unit mark unit
is_meant word base mark (split.Star cut) = begins word cut base && is_star mark
is_meant word base mark _ = false

-- or the driver itself
abbrev pub names_instance : List ℕ → Stmt → Bool
names_instance word (Inst base mark at pairs flags) = bytes_eq base word || is_meant word base mark (split_of word)
names_instance word _ = false

-- ---- which of them are gone

-- the first later statement that names an instance takes it back
abbrev pub taken_by : Stmt → List Placed → Option Placed
taken_by s later = find (λ n. names n.stmt s) later

-- what takes back the statement at a place
abbrev pub taken_at : List Placed → ℕ → Option Placed
taken_at placed i = option_and_then (λ p. taken_by p.stmt (drop (i + 1) placed)) (slice_get placed i)

-- the statement at a place is taken back, or an orphan
abbrev pub is_out : Stated → ℕ → Bool
is_out s i = is_some (taken_at s.placed i) || is_in i s.orphans

-- and it is an instance that the word names
abbrev pub is_gone : Stated → List ℕ → ℕ → Bool
is_gone s word i = option_map_or (λ p. names_instance word p.stmt && is_out s i) (slice_get s.placed i) false

abbrev pub gone_places : Stated → List ℕ → List ℕ
gone_places s word = filter (is_gone s word) (below (length s.placed))
