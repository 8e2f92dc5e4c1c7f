-- A text that is one statement.
use Rattle.std.specs.Prelude.{◌≡◌, ℕ, ◌+◌, ◌<◌, List, [], ◌∷◌, ◌++◌, length}
use Rattle.cf_types.specs.declared.stmt.Stmt.{Stmt}
use Rattle.config_rules.specs.Reading.{Files, Here, Reader, Reading, Statement, place, reader}
use Rattle.cf_expand.specs.Levels.{Level, treat}

-- a text with the line and the form of the statement that it is
pub record Spoken : Type 0 where
  pub text : List ℕ
  pub line : ℕ
  pub stmt : Stmt

-- the statement is placed, as that of a file of this name
abbrev pub placed_alone : List ℕ → ℕ → Stmt → Reading → Reading
placed_alone name line form r =
    record r { files = r.files ++ name ∷ []; placed = r.placed ++ record { stmt = form; file = length r.files; line = line } ∷ [] }

-- to read a file with this text is to place the statement, wherever the file is read
abbrev pub ReadsAs : List ℕ → ℕ → Stmt → Type 0
ReadsAs text line form = (n : ℕ) (files : Files) (around : ℕ) (name : List ℕ) (r : Reading) → length r.placed < 65536 → reader (n + 1) files around name text r ≡ placed_alone name line form r

-- a statement of this form is placed, and does nothing else
abbrev pub IsPlacedAtOnce : Stmt → Type 0
IsPlacedAtOnce form = (files : Files) (below : Reader) (here : Here) (levels : List Level) (s : Statement) (r : Reading) → treat files below here levels s form r ≡ place here s form r
