-- What a reading places, and the files that it reads.
use Rattle.std.proofs.Common.{◌≡◌, ℕ, zero, suc, ◌==◌, ◌||◌, Bool, true, false, cond, Option, Some, None, List, [], ◌∷◌, ◌++◌, length, refl}
use Rattle.std.specs.Prelude.{All, IfSome, is_some, nat_le, slice_index, ⊤, ◌&&◌, not}
use Rattle.std.specs.declared.result.Result.{Result}
use Rattle.std.specs.declared.result.Result.TheVariants.{Ok, Err}
use Rattle.std.specs.Option.{option_map_or}
use Rattle.std.proofs.lemmas.List.Elements.{All-cons, All-head, All-nil, All-push, All-tail}
use Rattle.cf_types.specs.declared.code.configuration.TheConstants.{BAD_NESTING, FILE_ABSENT, FILE_TOO_LONG, NO_PREFIX, TOO_MANY_FILES, TOO_MANY_STATEMENTS}
use Rattle.cf_types.specs.declared.stmt.CondWord.{CondWord}
use Rattle.cf_types.specs.declared.stmt.Stmt.{Stmt}
use Rattle.cf_types.specs.declared.stmt.Stmt.TheVariants as stmt
use Rattle.cf_types.specs.declared.stmt.Token.{Token}
use Rattle.config_rules.specs.Cut.{cut_of}
use Rattle.config_rules.specs.Form.{form_fault, form_of}
use Rattle.config_rules.specs.Reading.{Branches, Files, Here, Items, Part, Reader, Reading, Rest, Statement, ◌before◌, asking, behind_end, branch, branches, branches_in, by_load, closes, condition, condition_of, ended, followed_by, include, is_else, is_met, items_of, next_word, nothing, nothing_read, opens, otherwise, place, pop_prefix, put, read_branches, read_cut, read_end, read_first, read_items, read_placed, read_statement, reader, reading, refused, rest_of, statement, statements_in, stray, treat, under_prefix, with_condition, within}
use Rattle.config_rules.specs.Written.{IsWritten}
use Rattle.config_rules.proofs.CutText.{cut_sound}
use Rattle.config_rules.proofs.Parts.{cond_both}
use Rattle.config_rules.proofs.WrittenLaws.{form_written}
use Rattle.replay_laws.specs.OneLine.{IsOneLine}
use Rattle.replay_laws.proofs.OneLine.{joined}
use Rattle.replay_laws.proofs.Statements.{HasLines, form_lined}
use Rattle.replay_laws.proofs.Words.{HasLineTexts, text_words}

-- a statement as it is placed
abbrev pub IsLined : Stmt → Type 0
IsLined s = IsWritten s × HasLines s

-- what was read, as far as lines go
pub record IsReadLined (r : Reading) : Type 0 where
  pub placed : All (λ p. IsLined p.stmt) r.placed
  pub files : All IsOneLine r.files
  pub prefixes : All IsOneLine r.prefixes

-- what reads a file keeps it
abbrev KeepsLines : Reader → Type 0
KeepsLines below = (around : ℕ) (name text : List ℕ) (r : Reading) → IsOneLine name → IsReadLined r → IsReadLined (below around name text r)

cond_lined : (b : Bool) (x y : Reading) → IsReadLined x → IsReadLined y → IsReadLined (cond b x y)
cond_lined true x y p q = p
cond_lined false x y p q = q

option_lined : {A : Type 0} (P : A → Type 0) (f : A → Reading) (o : Option A) (d : Reading) → IfSome o P → ((x : A) → P x → IsReadLined (f x)) → IsReadLined d → IsReadLined (option_map_or f o d)
option_lined P f None d p h k = k
option_lined P f (Some x) d p h k = h x p

refused_lined : (file : List ℕ) (line code : ℕ) (r : Reading) → IsReadLined r → IsReadLined (refused file line code r)
refused_lined file line code r h = record { placed = h.placed; files = h.files; prefixes = h.prefixes }

asking_lined : (name : List ℕ) (r : Reading) → IsReadLined r → IsReadLined (asking name r)
asking_lined name r h = record { placed = h.placed; files = h.files; prefixes = h.prefixes }

place_lined : (here : Here) (s : Statement) (form : Stmt) (r : Reading) → IsLined form → IsReadLined r → IsReadLined (place here s form r)
place_lined here s form r f h = record { placed = All-push (λ p. IsLined p.stmt) r.placed _ h.placed f; files = h.files; prefixes = h.prefixes }

under_lined : (prefixes : List (List ℕ)) (path : List ℕ) → All IsOneLine prefixes → IsOneLine path → IsOneLine (under_prefix prefixes path)
under_lined [] path all one = one
under_lined (top ∷ prefixes) path all one =
    let under : IsOneLine (top ++ 47 ∷ path) = joined top (47 ∷ path) (All-head IsOneLine top prefixes all) one in
    cond_both IsOneLine (slice_index path 0 == 47) path (top ++ 47 ∷ path) (λ _. one) (λ _. under)

load_lined : (here : Here) (s : Statement) (optional : Bool) (passed r : Reading) (read : List ℕ → Reading) (file : Option (List ℕ)) → IsReadLined passed → IsReadLined r
    → ((text : List ℕ) → IsReadLined (read text)) → IsReadLined (by_load here s optional passed read file r)
load_lined here s optional passed r read None hp hr hread = cond_lined optional passed (refused here.file s.line FILE_ABSENT r) hp (refused_lined here.file s.line FILE_ABSENT r hr)
load_lined here s optional passed r read (Some text) hp hr hread =
    cond_lined (nat_le (length text) 1048576) (read text) (refused here.file s.line FILE_TOO_LONG r) (hread text) (refused_lined here.file s.line FILE_TOO_LONG r hr)

include_lined : (files : Files) (below : Reader) → KeepsLines below → (here : Here) (s : Statement) (path : List ℕ) (optional : Bool) (r : Reading) → IsLined (stmt.Include path optional) → IsReadLined r
    → IsReadLined (include files below here s path optional r)
include_lined files below keeps here s path optional r f h =
    let name = under_prefix r.prefixes path in
    let one = under_lined r.prefixes path h.prefixes f.1 in
    let asked = asking name r in
    let known = asking_lined name r h in
    let placed = place here s (stmt.Include path optional) asked in
    let more = place_lined here s (stmt.Include path optional) asked f known in
    cond_lined (here.deepest || nat_le 4096 (length r.files)) (refused here.file s.line TOO_MANY_FILES r)
    (by_load here s optional placed (λ text. below here.around name text placed) (files name) asked) (refused_lined here.file s.line TOO_MANY_FILES r h)
    (load_lined here s optional placed asked (λ text. below here.around name text placed) (files name) more known (λ text. keeps here.around name text placed one more))

pop_lined : (here : Here) (s : Statement) (prefixes : List (List ℕ)) (r : Reading) → All IsOneLine prefixes → IsLined (stmt.Prefix None) → IsReadLined r → IsReadLined (pop_prefix here s prefixes r)
pop_lined here s [] r all f h = refused_lined here.file s.line NO_PREFIX r h
pop_lined here s (top ∷ prefixes) r all f h =
    place_lined here s (stmt.Prefix None) (record r { prefixes = prefixes }) f (record { placed = h.placed; files = h.files; prefixes = All-tail IsOneLine top prefixes all })

treat_lined : (files : Files) (below : Reader) → KeepsLines below → (here : Here) (misplaced : Bool) (s : Statement) (form : Stmt) (r : Reading) → IsLined form → IsReadLined r
    → IsReadLined (treat files below here misplaced s form r)
treat_lined files below keeps here misplaced s (stmt.Include path optional) r f h = include_lined files below keeps here s path optional r f h
treat_lined files below keeps here misplaced s (stmt.Prefix None) r f h = pop_lined here s r.prefixes r h.prefixes f h
treat_lined files below keeps here misplaced s (stmt.Prefix (Some path)) r f h =
    place_lined here s (stmt.Prefix (Some path)) (record r { prefixes = under_prefix r.prefixes path ∷ r.prefixes }) f
    (record { placed = h.placed; files = h.files; prefixes = All-cons IsOneLine (under_prefix r.prefixes path) r.prefixes (under_lined r.prefixes path h.prefixes f.1) h.prefixes })
treat_lined files below keeps here misplaced s (stmt.Cond word name) r f h =
    cond_lined misplaced (refused here.file s.line BAD_NESTING r) (place here s (stmt.Cond word name) r)
    (refused_lined here.file s.line BAD_NESTING r h) (place_lined here s (stmt.Cond word name) r f h)
treat_lined files below keeps here misplaced s form r f h = place_lined here s form r f h

-- the statement that some words are
form_placed : (s : Statement) → HasLineTexts s → IfSome (form_of true s.pieces) IsLined
form_placed s h = by (form_of true s.pieces) refl (form_lined s.pieces h)
  where
    by : (o : Option Stmt) → form_of true s.pieces ≡ o → IfSome o HasLines → IfSome o IsLined
    by None is lined = tt
    by (Some form) is lined = (form_written s.pieces form is, lined)

placed_lined : (files : Files) (below : Reader) → KeepsLines below → (here : Here) (misplaced : Bool) (s : Statement) (r : Reading) → HasLineTexts s → IsReadLined r → IsReadLined (read_placed files below here misplaced s r)
placed_lined files below keeps here misplaced s r words h =
    let formed = option_map_or (λ form. treat files below here misplaced s form r) (form_of true s.pieces) r in
    cond_lined (nat_le 65536 (length r.placed)) (refused here.file s.line TOO_MANY_STATEMENTS r) (option_map_or (λ code. refused here.file s.line code r) (form_fault s.pieces) formed)
    (refused_lined here.file s.line TOO_MANY_STATEMENTS r h)
    (by_code (form_fault s.pieces) formed
    (option_lined IsLined (λ form. treat files below here misplaced s form r) (form_of true s.pieces) r (form_placed s words) (λ form f. treat_lined files below keeps here misplaced s form r f h) h))
  where
    by_code : (o : Option ℕ) (d : Reading) → IsReadLined d → IsReadLined (option_map_or (λ code. refused here.file s.line code r) o d)
    by_code None d k = k
    by_code (Some code) d k = refused_lined here.file s.line code r h

statement_lined : (files : Files) (below : Reader) → KeepsLines below → (live : Bool) (here : Here) (misplaced : Bool) (s : Statement) (r : Reading) → HasLineTexts s → IsReadLined r
    → IsReadLined (read_statement files below live here misplaced s r)
statement_lined files below keeps live here misplaced s r words h =
    let refusal = refused here.file s.line BAD_NESTING r in
    cond_lined live (read_placed files below here misplaced s r) (cond misplaced refusal r)
    (placed_lined files below keeps here misplaced s r words h) (cond_lined misplaced refusal r (refused_lined here.file s.line BAD_NESTING r h) h)

-- ---- the statements of items

abbrev mutual
  AllIn : (Statement → Type 0) → Items → Type 0
  AllIn P nothing = ⊤
  AllIn P (statement s items) = P s × AllIn P items
  AllIn P (condition s inside further items) = P s × AllIn P inside × AllOf P further × AllIn P items

  AllOf : (Statement → Type 0) → Branches → Type 0
  AllOf P (branch s inside further) = P s × AllIn P inside × AllOf P further
  AllOf P (otherwise s inside end) = P s × AllIn P inside × IfSome end P
  AllOf P (ended end) = IfSome end P

module _ (P : Statement → Type 0) where
  abbrev HasAll : Part → Type 0
  HasAll p = P p.word × AllIn P p.items

  -- a rest of a file whose statements all have P
  abbrev IsAll : Rest → Type 0
  IsAll rest = AllIn P rest.items × All HasAll rest.parts

  next_has : (parts : List Part) → All HasAll parts → IfSome (next_word parts) P
  next_has [] all = tt
  next_has (p ∷ parts) all = (All-head HasAll p parts all).0

  further_all : (parts : List Part) → All HasAll parts → AllOf P (branches_in parts)
  further_all [] all = tt
  further_all (p ∷ parts) all =
      let h = All-head HasAll p parts all in
      by (is_else (condition_of p.word)) (branches (condition_of p.word)) h.0 h.1 (next_has parts (All-tail HasAll p parts all)) (further_all parts (All-tail HasAll p parts all))
    where
      by : (a b : Bool) → P p.word → AllIn P p.items → IfSome (next_word parts) P → AllOf P (branches_in parts)
          → AllOf P (cond a (otherwise p.word p.items (next_word parts)) (cond b (branch p.word p.items (branches_in parts)) (ended (Some p.word))))
      by true b word items next later = (word, items, next)
      by false true word items next later = (word, items, later)
      by false false word items next later = word

  behind_all : (parts : List Part) → All HasAll parts → IsAll (behind_end parts)
  behind_all [] all = (tt, all)
  behind_all (p ∷ parts) all =
      by (closes (condition_of p.word)) ((All-head HasAll p parts all).1, All-tail HasAll p parts all) (behind_all parts (All-tail HasAll p parts all))
    where
      by : (b : Bool) → IsAll (record { items = p.items; parts = parts }) → IsAll (behind_end parts) → IsAll (cond b (record { items = p.items; parts = parts }) (behind_end parts))
      by true here later = here
      by false here later = later

  put_all : (word : Option CondWord) (s : Statement) (rest : Rest) → P s → IsAll rest → IsAll (put word s rest)
  put_all word s rest has all = by (opens word) (branches word || closes word)
    where
      behind : IsAll (behind_end rest.parts)
      behind = behind_all rest.parts all.1

      by : (a b : Bool) → IsAll (cond a (with_condition s rest (behind_end rest.parts)) (cond b (record { items = nothing; parts = record { word = s; items = rest.items } ∷ rest.parts }) (record { items = statement s rest.items; parts = rest.parts })))
      by true b = ((has, all.0, further_all rest.parts all.1, behind.0), behind.1)
      by false true = (tt, All-cons HasAll (record { word = s; items = rest.items }) rest.parts (has, all.0) all.1)
      by false false = ((has, all.0), all.1)

  rest_all : (ss : List Statement) → All P ss → IsAll (rest_of ss)
  rest_all [] all = (tt, All-nil HasAll)
  rest_all (s ∷ ss) all = put_all (condition_of s) s (rest_of ss) (All-head P s ss all) (rest_all ss (All-tail P s ss all))

  followed_all : (items more : Items) → AllIn P items → AllIn P more → AllIn P (followed_by items more)
  followed_all nothing more a b = b
  followed_all (statement s items) more a b = (a.0, followed_all items more a.1 b)
  followed_all (condition s inside further items) more a b = (a.0, a.1, a.2, followed_all items more a.3 b)

  stray_all : (word : Option Statement) → IfSome word P → AllIn P (stray word)
  stray_all None h = tt
  stray_all (Some s) h = (h, tt)

  -- the items of a file have the statements of the file
  items_all : (ss : List Statement) → All P ss → AllIn P (items_of ss)
  items_all ss all =
      let rest = rest_all ss all in
      followed_all (rest_of ss).items (stray (next_word (rest_of ss).parts)) rest.0 (stray_all (next_word (rest_of ss).parts) (next_has (rest_of ss).parts rest.1))

before_lined : (r : Reading) (next : Reading → Reading) → IsReadLined r → ((x : Reading) → IsReadLined x → IsReadLined (next x)) → IsReadLined (r before next)
before_lined r next h f = cond_lined (is_some r.fault) r (next r) h (f r h)

end_lined : (files : Files) (below : Reader) → KeepsLines below → (live : Bool) (here : Here) (line : ℕ) (end : Option Statement) (r : Reading) → IfSome end HasLineTexts → IsReadLined r
    → IsReadLined (read_end files below live here line end r)
end_lined files below keeps live here line None r words h = refused_lined here.file line BAD_NESTING r h
end_lined files below keeps live here line (Some s) r words h = statement_lined files below keeps live here (not (closes (condition_of s))) s r words h

mutual
  items_lined : (files : Files) (below : Reader) → KeepsLines below → (live : Bool) (here : Here) (items : Items) (r : Reading) → AllIn HasLineTexts items → IsReadLined r
      → IsReadLined (read_items files below live here items r)
  items_lined files below keeps live here nothing r words h = h
  items_lined files below keeps live here (statement s items) r words h =
      before_lined (read_statement files below live here (is_some (condition_of s)) s r) (read_items files below live here items) (statement_lined files below keeps live here (is_some (condition_of s)) s r words.0 h)
      (λ x hx. items_lined files below keeps live here items x words.1 hx)
  items_lined files below keeps live here (condition s inside further items) r words h =
      let chosen = live && is_met s r in
      let free = live && not chosen in
      let first = read_statement files below live here (nat_le 16 here.around) s r in
      let second = first before read_items files below chosen (within here) inside in
      let third = second before read_branches files below live free here s.line further in
      before_lined third (read_items files below live here items)
      (before_lined second (read_branches files below live free here s.line further)
      (before_lined first (read_items files below chosen (within here) inside) (statement_lined files below keeps live here (nat_le 16 here.around) s r words.0 h)
      (λ x hx. items_lined files below keeps chosen (within here) inside x words.1 hx))
      (λ x hx. branches_lined files below keeps live free here s.line further x words.2 hx))
      (λ x hx. items_lined files below keeps live here items x words.3 hx)

  branches_lined : (files : Files) (below : Reader) → KeepsLines below → (live free : Bool) (here : Here) (line : ℕ) (further : Branches) (r : Reading) → AllOf HasLineTexts further → IsReadLined r
      → IsReadLined (read_branches files below live free here line further r)
  branches_lined files below keeps live free here line (branch s inside further) r words h =
      let chosen = free && is_met s r in
      let first = read_statement files below live here false s r in
      before_lined (first before read_items files below chosen (within here) inside) (read_branches files below live (free && not chosen) here line further)
      (before_lined first (read_items files below chosen (within here) inside) (statement_lined files below keeps live here false s r words.0 h)
      (λ x hx. items_lined files below keeps chosen (within here) inside x words.1 hx))
      (λ x hx. branches_lined files below keeps live (free && not chosen) here line further x words.2 hx)
  branches_lined files below keeps live free here line (otherwise s inside end) r words h =
      let first = read_statement files below live here false s r in
      before_lined (first before read_items files below free (within here) inside) (read_end files below live here line end)
      (before_lined first (read_items files below free (within here) inside) (statement_lined files below keeps live here false s r words.0 h)
      (λ x hx. items_lined files below keeps free (within here) inside x words.1 hx))
      (λ x hx. end_lined files below keeps live here line end x words.2 hx)
  branches_lined files below keeps live free here line (ended end) r words h = end_lined files below keeps live here line end r words h

cut_lined : (files : Files) (below : Reader) → KeepsLines below → (here : Here) (text : List ℕ) (cut : Result (List Token) (ℕ × ℕ)) (r : Reading) → cut_of text ≡ cut → IsReadLined r → IsReadLined (read_cut files below here text cut r)
cut_lined files below keeps here text (Ok tokens) r is h = items_lined files below keeps true here (items_of (statements_in text tokens)) r (items_all HasLineTexts (statements_in text tokens) (text_words text tokens (cut_sound text tokens is))) h
cut_lined files below keeps here text (Err fault) r is h = refused_lined here.file fault.0 fault.1 r h

reader_lined : (n : ℕ) (files : Files) → KeepsLines (reader n files)
unfolding reader
reader_lined zero files around name text r one h = h
reader_lined (suc n) files around name text r one h =
    cut_lined files (reader n files) (reader_lined n files) (record { file = name; number = length r.files; around = around; deepest = n == 0 }) text (cut_of text) (record r { files = r.files ++ name ∷ [] }) refl
    (record { placed = h.placed; files = All-push IsOneLine r.files name h.files one; prefixes = h.prefixes })

nothing_lined : IsReadLined nothing_read
nothing_lined = record { placed = All-nil (λ p. IsLined p.stmt); files = All-nil IsOneLine; prefixes = All-nil IsOneLine }

first_lined : (files : Files) (name : List ℕ) (file : Option (List ℕ)) → IsOneLine name → IsReadLined (read_first files name file)
first_lined files name None one = refused_lined name 0 FILE_ABSENT (asking name nothing_read) (asking_lined name nothing_read nothing_lined)
first_lined files name (Some text) one =
    let asked = asking name nothing_read in
    let known = asking_lined name nothing_read nothing_lined in
    cond_lined (nat_le (length text) 1048576) (reader 17 files 0 name text asked) (refused name 0 FILE_TOO_LONG asked)
    (reader_lined 17 files 0 name text asked one known) (refused_lined name 0 FILE_TOO_LONG asked known)

-- what a file of such a name reads as
pub reading_lined : (files : Files) (name : List ℕ) → IsOneLine name → IsReadLined (reading files name)
unfolding reading
reading_lined files name one = first_lined files name (files name) one
