-- The reading of a file statement by statement, as the code goes: the conditions that are open are kept as levels, the
-- innermost first. That it is the reading by items is proved.
use Rattle.std.specs.Prelude.{ℕ, ◌+◌, ◌-◌, Bool, true, false, not, ◌&&◌, ◌||◌, ◌==◌, nat_le, if◌then◌else◌, List, [], ◌∷◌, length, take, Option}
use Rattle.std.specs.List.{list_any}
use Rattle.cf_types.specs.declared.code.configuration.TheConstants.{BAD_NESTING}
use Rattle.cf_types.specs.declared.stmt.CondWord.{CondWord}
use Rattle.cf_types.specs.declared.stmt.Placed.{Placed}
use Rattle.cf_types.specs.declared.stmt.Stmt.{Stmt}
use Rattle.config_rules.specs.Reading.{Files, Here, Reader, Reading, Statement, ◌before◌, branches, closes, condition_of, holds, is_else, names_declared, opens, refused}
use Rattle.config_rules.specs.Reading as by_items

-- an open condition: the line of its opening; whether the part that it stands in is not left out, whether a branch
-- was taken, whether the branch that is open now is not left out, and whether that is the one of `else`
pub record Level : Type 0 where
  pub line : ℕ
  pub outer : Bool
  pub taken : Bool
  pub live : Bool
  pub last : Bool

-- the innermost level comes first
abbrev pub is_live : List Level → Bool
is_live [] = true
is_live (l ∷ levels) = l.live

-- a statement with this word stands in a part that is not left out; one that goes on with a condition stands where the
-- condition stands
abbrev pub is_placed : Option CondWord → List Level → Bool
is_placed word [] = true
is_placed word (l ∷ levels) = if branches word || closes word then l.outer else l.live

-- a condition word without an open condition, behind its `else`, or one that opens a condition where there is no room
-- for a further one
abbrev pub is_misplaced : ℕ → Option CondWord → List Level → Bool
is_misplaced room word levels =
    (opens word && nat_le room (length levels))
    || ((branches word || closes word) && length levels == 0)
    || (branches word && list_any (λ l. l.last) (take 1 levels))

-- the condition that is opened on this line within these
abbrev pub opened : ℕ → Bool → List Level → Level
opened line holds levels =
    record { line = line; outer = is_live levels; taken = is_live levels && holds; live = is_live levels && holds; last = false }

-- a condition whose next branch begins, perhaps the last one; it is taken where no earlier one was
abbrev pub next_branch : Bool → Bool → Level → Level
next_branch holds last l = record l { taken = l.taken || (l.outer && holds); live = l.outer && not l.taken && holds; last = last }

-- the levels behind a statement with this word on this line, whose condition holds or doesn't
abbrev pub levels_after : Option CondWord → ℕ → Bool → List Level → List Level
levels_after word line holds [] = if opens word then opened line holds [] ∷ [] else []
levels_after word line holds (l ∷ levels) =
    if opens word then opened line holds (l ∷ levels) ∷ l ∷ levels
    else (if branches word then next_branch holds (is_else word) l ∷ levels
    else (if closes word then levels else l ∷ levels))

-- the levels behind a statement, after the statements that were placed
abbrev pub levels_behind : List Placed → Statement → List Level → List Level
levels_behind placed s levels = levels_after (condition_of s) s.line (holds (condition_of s) (names_declared placed s)) levels

-- within these levels of a file
abbrev pub among : List Level → Here → Here
among levels here = record here { around = here.around + length levels }

-- what an include reads there
abbrev pub include : Files → Reader → Here → List Level → Statement → List ℕ → Bool → Reading → Reading
include files below here levels s path optional r = by_items.include files below (among levels here) s path optional r

-- a statement may not be there
abbrev pub is_stray : Here → List Level → Statement → Bool
is_stray here levels s = is_misplaced (16 - here.around) (condition_of s) levels

-- a statement that has a form
abbrev pub treat : Files → Reader → Here → List Level → Statement → Stmt → Reading → Reading
treat files below here levels s form r = by_items.treat files below (among levels here) (is_stray here levels s) s form r

-- a statement of a part that is not left out
abbrev pub read_placed : Files → Reader → Here → List Level → Statement → Reading → Reading
read_placed files below here levels s r = by_items.read_placed files below (among levels here) (is_stray here levels s) s r

-- a statement
abbrev pub read_statement : Files → Reader → Here → List Level → Statement → Reading → Reading
read_statement files below here levels s r =
    by_items.read_statement files below (is_placed (condition_of s) levels) (among levels here) (is_stray here levels s) s r

-- at the end of a file no condition may be open; the innermost is named
abbrev pub read_end : Here → List Level → Reading → Reading
read_end here [] r = r
read_end here (l ∷ levels) r = refused here.file l.line BAD_NESTING r

-- the statements of a file, up to the first fault
abbrev pub read_statements : Files → Reader → Here → List Level → List Statement → Reading → Reading
read_statements files below here levels [] r = read_end here levels r
read_statements files below here levels (s ∷ ss) r =
    read_statement files below here levels s r before read_statements files below here (levels_behind r.placed s levels) ss
