-- The statements that are placed: the named file with its includes, without the parts that are left out. Includes,
-- prefixes and conditions follow config(5). How a path is joined to a prefix, what balances in which file, the limits
-- and the codes are this project's profile.
use Rattle.std.specs.Prelude.{ℕ, zero, suc, ◌+◌, Bool, true, false, not, ◌&&◌, ◌||◌, ◌==◌, nat_le, if◌then◌else◌, List, [], ◌∷◌, ◌++◌, length, take, drop, map, slice_index, bytes_eq, find, Option, Some, None, is_some, Result, Ok, Err}
use Rattle.std.specs.List.{list_any}
use Rattle.std.specs.Option.{option_map_or}
use Rattle.cf_types.specs.declared.code.configuration.TheConstants.{FILE_ABSENT, FILE_TOO_LONG, TOO_MANY_FILES, BAD_NESTING, NO_PREFIX, TOO_MANY_STATEMENTS}
use Rattle.cf_types.specs.declared.keyword.TheConstants.{CONDITION_WORDS}
use Rattle.cf_types.specs.declared.stmt.CondWord.{CondWord}
use Rattle.cf_types.specs.declared.stmt.CondWord.TheVariants.{IfDef, IfNDef, ElifDef, ElifNDef, Else, EndIf}
use Rattle.cf_types.specs.declared.stmt.Piece.{Piece}
use Rattle.cf_types.specs.declared.stmt.Placed.{Placed}
use Rattle.cf_types.specs.declared.stmt.Token.{Token}
use Rattle.cf_types.specs.declared.stmt.Stmt.{Stmt}
use Rattle.cf_types.specs.declared.stmt.Stmt.TheVariants as stmt
use Rattle.cf_types.specs.declared.tables.Refusal.{Refusal}
use Rattle.config_rules.specs.Cut.{cut_of, statements, pieces}
use Rattle.config_rules.specs.Form.{condition_spelling, is_word, form_fault, form_of}

-- the files that are handed in
abbrev pub Files : Type 0
Files = List ℕ → Option (List ℕ)

-- a statement of a file: its line and its tokens
pub record Statement : Type 0 where
  pub line : ℕ
  pub pieces : List Piece

-- the line of a statement is that of its first token
abbrev pub line_at : List Token → ℕ
line_at [] = 0
line_at (t ∷ ts) = t.line

-- the statements of a text
abbrev pub statements_in : List ℕ → List Token → List Statement
statements_in text tokens = map (λ ts. record { line = line_at ts; pieces = pieces text ts }) (statements tokens)

-- what was read so far, the files that were asked for, also those that are not there, and the first fault
pub record Reading : Type 0 where
  pub placed : List Placed
  pub files : List (List ℕ)
  pub asked : List (List ℕ)
  pub prefixes : List (List ℕ)
  pub fault : Option Refusal

-- before anything is read
abbrev pub nothing_read : Reading
nothing_read = record { placed = []; files = []; asked = []; prefixes = []; fault = None }

-- ---- conditions

-- an attribute or a device of this name
abbrev pub declares : List ℕ → Stmt → Bool
declares name (stmt.Define n locs needs) = bytes_eq n name
declares name (stmt.Class n) = bytes_eq n name
declares name (stmt.DefPseudo n locs needs) = bytes_eq n name
declares name (stmt.Device n locs needs) = bytes_eq n name
declares name _ = false

-- one of the placed statements declares this name
abbrev pub is_declared : List Placed → List ℕ → Bool
is_declared placed name = list_any (λ p. declares name p.stmt) placed

-- the condition word with which a statement begins, if it does
abbrev pub condition_of : Statement → Option CondWord
condition_of s = first_condition s.pieces
  where
    first_condition : List Piece → Option CondWord
    first_condition [] = None
    first_condition (p ∷ ps) = find (λ word. is_word (condition_spelling word) p) CONDITION_WORDS

-- a word that opens a condition
abbrev pub opens : Option CondWord → Bool
opens (Some IfDef) = true
opens (Some IfNDef) = true
opens _ = false

-- a word that begins another branch of the open condition
abbrev pub branches : Option CondWord → Bool
branches (Some ElifDef) = true
branches (Some ElifNDef) = true
branches (Some Else) = true
branches _ = false

-- a word that ends the open condition
abbrev pub closes : Option CondWord → Bool
closes (Some EndIf) = true
closes _ = false

-- the word of the branch that needs no name
abbrev pub is_else : Option CondWord → Bool
is_else (Some Else) = true
is_else _ = false

-- the statement's second word is a name that was declared
abbrev pub names_declared : List Placed → Statement → Bool
names_declared placed s = list_any (λ p. is_declared placed p.text) (take 1 (drop 1 s.pieces))

-- whether the condition of a word holds, where its name is declared or isn't; that of `else` always does
abbrev pub holds : Option CondWord → Bool → Bool
holds (Some IfDef) declared = declared
holds (Some ElifDef) declared = declared
holds (Some IfNDef) declared = not declared
holds (Some ElifNDef) declared = not declared
holds (Some Else) declared = true
holds _ declared = false

-- the condition of a statement holds behind what was read
abbrev pub is_met : Statement → Reading → Bool
is_met s r = holds (condition_of s) (names_declared r.placed s)

-- ---- items

-- what stands in a file, one behind the other: statements, and conditions. A condition is the statement that opens it,
-- the items of its first branch, and the branches behind that.
mutual
  pub data Items : Type 0 where
    nothing : Items
    statement : Statement → Items → Items
    condition : Statement → Items → Branches → Items → Items

  -- further branches, that of `else` last, up to the statement that ends the condition, if there is one
  pub data Branches : Type 0 where
    branch : Statement → Items → Branches → Branches
    otherwise : Statement → Items → Option Statement → Branches
    ended : Option Statement → Branches

-- some items behind others
abbrev pub followed_by : Items → Items → Items
followed_by nothing more = more
followed_by (statement s items) more = statement s (followed_by items more)
followed_by (condition s inside further items) more = condition s inside further (followed_by items more)

-- a statement that goes on with a condition or ends one, and the items up to the next such statement
pub record Part : Type 0 where
  pub word : Statement
  pub items : Items

-- a file from some place on: the items up to the first statement that belongs to a condition opened before that place,
-- and the parts from there on
pub record Rest : Type 0 where
  pub items : Items
  pub parts : List Part

-- no statement is left
abbrev pub no_rest : Rest
no_rest = record { items = nothing; parts = [] }

-- the statement with which these parts begin
abbrev pub next_word : List Part → Option Statement
next_word [] = None
next_word (p ∷ parts) = Some p.word

-- the branches with which a condition goes on
abbrev pub branches_in : List Part → Branches
branches_in [] = ended None
branches_in (p ∷ parts) =
    if is_else (condition_of p.word) then otherwise p.word p.items (next_word parts)
    else (if branches (condition_of p.word) then branch p.word p.items (branches_in parts) else ended (Some p.word))

-- what stands behind its `endif`
abbrev pub behind_end : List Part → Rest
behind_end [] = no_rest
behind_end (p ∷ parts) = if closes (condition_of p.word) then record { items = p.items; parts = parts } else behind_end parts

-- a condition that this statement opens
abbrev pub with_condition : Statement → Rest → Rest → Rest
with_condition s rest behind =
    record { items = condition s rest.items (branches_in rest.parts) behind.items; parts = behind.parts }

-- a statement with this word, and the rest of its file
abbrev pub put : Option CondWord → Statement → Rest → Rest
put word s rest =
    if opens word then with_condition s rest (behind_end rest.parts)
    else (if branches word || closes word then record { items = nothing; parts = record { word = s; items = rest.items } ∷ rest.parts }
    else record { items = statement s rest.items; parts = rest.parts })

-- these statements as a rest of a file
abbrev pub rest_of : List Statement → Rest
rest_of [] = no_rest
rest_of (s ∷ ss) = put (condition_of s) s (rest_of ss)

-- a statement for which no condition is open stands for itself
abbrev pub stray : Option Statement → Items
stray None = nothing
stray (Some s) = statement s nothing

-- the items of a file that has these statements, up to the first for which no condition is open
abbrev pub items_of : List Statement → Items
items_of ss = followed_by (rest_of ss).items (stray (next_word (rest_of ss).parts))

-- ---- prefixes

-- a path as it is taken: behind the top prefix, unless it begins with `/` or there is none
abbrev pub under_prefix : List (List ℕ) → List ℕ → List ℕ
under_prefix [] path = path
under_prefix (top ∷ prefixes) path = if slice_index path 0 == 47 then path else top ++ 47 ∷ path

-- ---- reading

-- where a statement stands: the name and number of its file, how many conditions are open around it, and whether it may
-- include nothing
pub record Here : Type 0 where
  pub file : List ℕ
  pub number : ℕ
  pub around : ℕ
  pub deepest : Bool

-- reads a file: its name and text, with so many conditions open around it
abbrev pub Reader : Type 0
Reader = ℕ → List ℕ → List ℕ → Reading → Reading

-- the fault that ends the reading
abbrev pub refused : List ℕ → ℕ → ℕ → Reading → Reading
refused file line code r = record r { fault = Some (record { file = file; line = line; code = code }) }

-- a file is asked for
abbrev pub asking : List ℕ → Reading → Reading
asking name r = record r { asked = r.asked ++ name ∷ [] }

-- a statement is placed
abbrev pub place : Here → Statement → Stmt → Reading → Reading
place here s form r = record r { placed = r.placed ++ record { stmt = form; file = here.number; line = s.line } ∷ [] }

-- what loading gave: no file, which an optional include passes over, or a text that is read behind the include
abbrev pub by_load : Here → Statement → Bool → Reading → (List ℕ → Reading) → Option (List ℕ) → Reading → Reading
by_load here s optional passed read None r = if optional then passed else refused here.file s.line FILE_ABSENT r
by_load here s optional passed read (Some text) r = if nat_le (length text) 1048576 then read text else refused here.file s.line FILE_TOO_LONG r

-- a file too deep or too many is not asked for
abbrev pub include : Files → Reader → Here → Statement → List ℕ → Bool → Reading → Reading
include files below here s path optional r =
    if here.deepest || nat_le 4096 (length r.files) then refused here.file s.line TOO_MANY_FILES r
    else (let name = under_prefix r.prefixes path in
    let asked = asking name r in
    let placed = place here s (stmt.Include path optional) asked in
    by_load here s optional placed (λ text. below here.around name text placed) (files name) asked)

-- the top prefix goes, where there is one
abbrev pub pop_prefix : Here → Statement → List (List ℕ) → Reading → Reading
pop_prefix here s [] r = refused here.file s.line NO_PREFIX r
pop_prefix here s (top ∷ prefixes) r = place here s (stmt.Prefix None) (record r { prefixes = prefixes })

-- a statement that has a form; a condition word may be misplaced
abbrev pub treat : Files → Reader → Here → Bool → Statement → Stmt → Reading → Reading
treat files below here misplaced s (stmt.Include path optional) r = include files below here s path optional r
treat files below here misplaced s (stmt.Prefix None) r = pop_prefix here s r.prefixes r
treat files below here misplaced s (stmt.Prefix (Some path)) r =
    place here s (stmt.Prefix (Some path)) (record r { prefixes = under_prefix r.prefixes path ∷ r.prefixes })
treat files below here misplaced s (stmt.Cond word name) r =
    if misplaced then refused here.file s.line BAD_NESTING r else place here s (stmt.Cond word name) r
treat files below here misplaced s form r = place here s form r

-- a statement of a part that is not left out
abbrev pub read_placed : Files → Reader → Here → Bool → Statement → Reading → Reading
read_placed files below here misplaced s r =
    if nat_le 65536 (length r.placed) then refused here.file s.line TOO_MANY_STATEMENTS r
    else option_map_or (λ code. refused here.file s.line code r) (form_fault s.pieces)
    (option_map_or (λ form. treat files below here misplaced s form r) (form_of true s.pieces) r)

-- in a part that is left out only the first word is looked at, for the nesting
abbrev pub read_statement : Files → Reader → Bool → Here → Bool → Statement → Reading → Reading
read_statement files below live here misplaced s r =
    if live then read_placed files below here misplaced s r
    else (if misplaced then refused here.file s.line BAD_NESTING r else r)

-- a condition ends with `endif`; where the file ends before, the opening is named
abbrev pub read_end : Files → Reader → Bool → Here → ℕ → Option Statement → Reading → Reading
read_end files below live here line None r = refused here.file line BAD_NESTING r
read_end files below live here line (Some s) r = read_statement files below live here (not (closes (condition_of s))) s r

-- reads on behind what was read, up to the first fault
infixl 2 ◌before◌
abbrev pub ◌before◌ : Reading → (Reading → Reading) → Reading
r before next = if is_some r.fault then r else next r

-- within one condition more
abbrev pub within : Here → Here
within here = record here { around = here.around + 1 }

-- items, in a part that is live or left out: the words of a condition are read where it stands, and of its branches the
-- first whose condition holds is live. Sixteen conditions may be open at once.
abbrev mutual
  pub read_items : Files → Reader → Bool → Here → Items → Reading → Reading
  read_items files below live here nothing r = r
  read_items files below live here (statement s items) r =
      read_statement files below live here (is_some (condition_of s)) s r
      before read_items files below live here items
  read_items files below live here (condition s inside further items) r =
      let chosen = live && is_met s r in
      read_statement files below live here (nat_le 16 here.around) s r
      before read_items files below chosen (within here) inside
      before read_branches files below live (live && not chosen) here s.line further
      before read_items files below live here items

  -- the branches of the condition that was opened on this line, of which one may still be chosen or none
  pub read_branches : Files → Reader → Bool → Bool → Here → ℕ → Branches → Reading → Reading
  read_branches files below live free here line (branch s inside further) r =
      let chosen = free && is_met s r in
      read_statement files below live here false s r
      before read_items files below chosen (within here) inside
      before read_branches files below live (free && not chosen) here line further
  read_branches files below live free here line (otherwise s inside end) r =
      read_statement files below live here false s r
      before read_items files below free (within here) inside
      before read_end files below live here line end
  read_branches files below live free here line (ended end) r = read_end files below live here line end r

-- a file is cut whole before its statements are looked at
abbrev pub read_cut : Files → Reader → Here → List ℕ → Result (List Token) (ℕ × ℕ) → Reading → Reading
read_cut files below here text (Ok tokens) r = read_items files below true here (items_of (statements_in text tokens)) r
read_cut files below here text (Err fault) r = refused here.file fault.0 fault.1 r

-- reads a file that may have so many levels of files, itself counted
unfoldable pub reader : ℕ → Files → Reader
reader zero files around name text r = r
reader (suc n) files around name text r =
    read_cut files (reader n files) (record { file = name; number = length r.files; around = around; deepest = n == 0 }) text (cut_of text)
    (record r { files = r.files ++ name ∷ [] })

-- the named file, which takes no prefix
abbrev pub read_first : Files → List ℕ → Option (List ℕ) → Reading
read_first files name None = refused name 0 FILE_ABSENT (asking name nothing_read)
read_first files name (Some text) =
    if nat_le (length text) 1048576 then reader 17 files 0 name text (asking name nothing_read)
    else refused name 0 FILE_TOO_LONG (asking name nothing_read)

-- what the named file reads as: its placed statements, its files, all that was asked for, and its first fault
unfoldable pub reading : Files → List ℕ → Reading
reading files name = read_first files name (files name)
