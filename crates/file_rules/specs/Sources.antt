-- Which sources a configuration selects by its `file` statements, after files.conf of config(5). The form of the statement
-- and its codes are this project's profile.
use Rattle.std.specs.Prelude.{◌≡◌, ℕ, ◌<◌, ◌≤◌, ◌⊎◌, Bool, true, false, not, ◌&&◌, List, [], ◌∷◌, ◌++◌, drop, map, filter, filter_map, slice_get, bytes_eq, codes, Option, Some, None, is_some, option_and_then, ⊤}
use Rattle.std.specs.List.{before_first, position_or_len, prefix_len}
use Rattle.std.specs.Option.{option_map_or}
use Rattle.cf_types.specs.declared.code.configuration.TheConstants.{NO_PATH, NO_CONDITION, TOO_DEEP}
use Rattle.cf_types.specs.declared.stmt.Piece.{Piece}
use Rattle.cf_types.specs.declared.stmt.Placed.{Placed}
use Rattle.cf_types.specs.declared.stmt.Stmt.{Stmt}
use Rattle.cf_types.specs.declared.stmt.Stmt.TheVariants as stmt
use Rattle.cf_types.specs.declared.tables.Refusal.{Refusal}
use Rattle.cf_types.specs.declared.tables.Tables.{Tables}
use Rattle.config_rules.specs.Fault.{Accepted, first_fault, refusal}
use Rattle.config_rules.specs.Form.{given, is_among, is_word, path_of}
use Rattle.config_rules.specs.Meaning.{Means}
use Rattle.config_rules.specs.Reading.{Files, reading}
use Rattle.file_rules.specs.Chosen.{is_chosen}
use Rattle.file_rules.specs.Condition.{Cond, Disjunction, is_true, nesting}

-- ---- the form: `file P [C] [FLAG ..] [compile-with P]`, behind its word

-- the path
abbrev pub path_in : List Piece → Option (List ℕ)
path_in ps = option_and_then path_of (slice_get ps 0)

-- a flag
abbrev pub is_flag : Piece → Bool
is_flag p = is_among (codes "needs-flag" ∷ codes "needs-count" ∷ []) p

-- a word that is no name in a condition
abbrev pub ends_condition : Piece → Bool
ends_condition p = is_among (codes "needs-flag" ∷ codes "needs-count" ∷ codes "compile-with" ∷ []) p

-- what stands between the path and the first of these words
abbrev pub condition_in : List Piece → List Piece
condition_in ps = before_first ends_condition (drop 1 ps)

-- what stands from it on
abbrev pub tail_in : List Piece → List Piece
tail_in ps = drop (position_or_len ends_condition (drop 1 ps)) (drop 1 ps)

-- nothing, or `compile-with P`
abbrev pub is_rule : List Piece → Bool
is_rule [] = true
is_rule (w ∷ p ∷ []) = is_word (codes "compile-with") w && is_some (path_of p)
is_rule _ = false

-- flags, and then perhaps a rule
abbrev pub is_tail : List Piece → Bool
is_tail ps = is_rule (drop (prefix_len is_flag ps) ps)

-- nothing, or a condition
abbrev pub IsCondition : List Piece → Option Disjunction → Type 0
IsCondition ps None = ps ≡ []
IsCondition ps (Some d) = Cond ps d

-- what a `file` statement says
pub record Source : Type 0 where
  pub path : List ℕ
  pub condition : Option Disjunction

-- the statement has a form, and says this
pub record HasForm (ps : List Piece) (s : Source) : Type 0 where
  pub path : path_in ps ≡ Some s.path
  pub condition : IsCondition (condition_in ps) s.condition
  pub «tail» : is_tail (tail_in ps) ≡ true

-- how deep its condition nests
abbrev pub depth_of : Source → ℕ
depth_of s = option_map_or nesting s.condition 0

-- ---- codes, in the order in which they are looked for

-- its first word is no path
abbrev pub LacksPath : List Piece → Type 0
LacksPath ps = path_in ps ≡ None

-- it has one, but what follows has no form
abbrev pub LacksForm : List Piece → Type 0
LacksForm ps = (is_some (path_in ps) ≡ true) × ((s : Source) → ¬ HasForm ps s)

-- it has a form, with a condition that nests too deep
abbrev pub NestsTooDeep : List Piece → Type 0
NestsTooDeep ps = (s : Source) × HasForm ps s × (64 < depth_of s)

-- a `file` statement has this code
abbrev pub HasCode : List Piece → ℕ → Type 0
HasCode ps code =
    ((code ≡ NO_PATH) × LacksPath ps) ⊎ (((code ≡ NO_CONDITION) × LacksForm ps) ⊎ ((code ≡ TOO_DEEP) × NestsTooDeep ps))

-- it has none, and says this
pub record IsSource (ps : List Piece) (s : Source) : Type 0 where
  pub form : HasForm ps s
  pub depth : depth_of s ≤ 64

-- ---- all `file` statements

-- what stands behind the word of a `file` statement
abbrev pub file_pieces : Stmt → Option (List Piece)
file_pieces (stmt.Free word rest) = given (bytes_eq word (codes "file")) rest
file_pieces _ = None

-- the same of several statements, in order
abbrev pub files_in : List Placed → List (List Piece)
files_in placed = filter_map (λ p. file_pieces p.stmt) placed

-- each says what stands at its place
abbrev pub AreSources : List (List Piece) → List Source → Type 0
AreSources [] [] = ⊤
AreSources (ps ∷ pss) (s ∷ ss) = IsSource ps s × AreSources pss ss
AreSources _ _ = ⊥

-- the first `file` statement that has a code
pub record IsFirstBad (files : List (List ℕ)) (placed : List Placed) (r : Refusal) : Type 0 where
  pub before : List Placed
  pub bad : Placed
  pub after : List Placed
  pub sources : List Source
  pub pieces : List Piece
  pub code : ℕ
  pub parts : placed ≡ before ++ bad ∷ after
  pub good : AreSources (files_in before) sources
  pub file : file_pieces bad.stmt ≡ Some pieces
  pub has_code : HasCode pieces code
  pub shown : r ≡ refusal files bad code

-- ---- what is selected

-- a source without a condition, or with one that is true
abbrev pub is_selected : (List ℕ → Bool) → Source → Bool
is_selected test s = option_map_or (is_true test) s.condition true

-- each text at its first place alone
abbrev pub distinct : List (List ℕ) → List (List ℕ)
distinct [] = []
distinct (x ∷ xs) = x ∷ filter (λ y. not (bytes_eq x y)) (distinct xs)

-- the paths of the sources that are selected
abbrev pub paths_of : (List ℕ → Bool) → List Source → List (List ℕ)
paths_of test sources = distinct (map (λ s. s.path) (filter (is_selected test) sources))

-- the statements select these paths, where a test says which names are true
pub record SelectsIn (test : List ℕ → Bool) (placed : List Placed) (paths : List (List ℕ)) : Type 0 where
  pub sources : List Source
  pub read : AreSources (files_in placed) sources
  pub shown : paths ≡ paths_of test sources

-- the configuration selects these paths
pub record Selects (files : Files) (name : List ℕ) (paths : List (List ℕ)) : Type 0 where
  pub tables : Tables
  pub means : Means files name tables
  pub selects : SelectsIn (is_chosen tables) (reading files name).placed paths

-- the first fault of the configuration where its sources are asked for: a fault of the configuration, or else that of its
-- first `file` statement that has a code
abbrev pub IsFirstFault : Files → List ℕ → Refusal → Type 0
IsFirstFault files name r =
    (first_fault files name ≡ Some r) ⊎ (Accepted files name × IsFirstBad (reading files name).files (reading files name).placed r)
