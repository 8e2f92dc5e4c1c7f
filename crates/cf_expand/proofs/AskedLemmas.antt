-- What a reading asks for only grows.
use Rattle.std.proofs.Common.{◌≡◌, ℕ, zero, suc, ◌+◌, ◌-◌, ◌==◌, ◌<◌, ◌≤◌, ◌||◌, arith, Bool, true, false, cond, Option, Some, None, List, [], ◌∷◌, ◌++◌, length, map, refl, ap, sym, ◌∙◌, subst, append_assoc, append-nil}
use Rattle.std.specs.Prelude.{IsErrAnd, is_some, nat_le, Result, Ok, Err}
use Rattle.std.specs.List.{after_first, position_or_len}
use Rattle.std.specs.Option.{option_map_or}
use Rattle.std.proofs.lemmas.List.Elements.{All-drop}
use Rattle.std.proofs.lemmas.Bool.Decides.{nat_tests}
use Rattle.cf_types.specs.declared.code.configuration.TheConstants.{BAD_NESTING, FILE_ABSENT, FILE_TOO_LONG, NO_PREFIX, TOO_MANY_FILES, TOO_MANY_STATEMENTS}
use Rattle.cf_types.specs.declared.stmt.CondWord.{CondWord}
use Rattle.cf_types.specs.declared.stmt.Placed.{Placed}
use Rattle.cf_types.specs.declared.stmt.Stmt.{Stmt}
use Rattle.cf_types.specs.declared.stmt.Stmt.TheVariants as stmt
use Rattle.cf_types.specs.declared.stmt.Token.{Token}
use Rattle.cf_grammar.specs.Statement.{AreWithin, IsWithin}
use Rattle.cf_io.specs.Asked.{Asks, AsksFront}
use Rattle.cf_io.specs.Load.{asked_behind}
use Rattle.cf_expand.specs.declared.source.Include.{Include}
use Rattle.cf_expand.specs.declared.source.Source.{Source}
use Rattle.cf_expand.specs.Asked.{AsksStep}
use Rattle.cf_expand.specs.Steps.{here_of, include_at}
use Rattle.cf_expand.specs.Lines.{statement_of}
use Rattle.cf_expand.proofs.ItemLaws.{items_read}
use Rattle.cf_io.proofs.AskedLemmas.{front_all, front_behind, front_more}
use Rattle.config_rules.specs.Cut.{cut_of, is_stop, statements}
use Rattle.config_rules.specs.Form.{form_fault, form_of}
use Rattle.config_rules.specs.Reading.{Files, Here, Reader, Reading, Statement, asking, by_load, condition_of, holds, names_declared, nothing_read, place, pop_prefix, read_cut, read_first, reader, refused, statements_in, under_prefix}
use Rattle.cf_expand.specs.Levels.{Level, include, is_misplaced, is_placed, levels_after, levels_behind, read_end, read_placed, read_statement, read_statements, treat}

-- a later reading has asked for what an earlier one has, and perhaps for more behind it
pub record Grows (old new : Reading) : Type 0 where
  pub more : List (List ℕ)
  pub asked : new.asked ≡ old.asked ++ more

pub same_grows : (old new : Reading) → new.asked ≡ old.asked → Grows old new
same_grows old new same = record { more = []; asked = same ∙ sym (append-nil old.asked) }

pub grows_then : (a b c : Reading) → Grows a b → Grows b c → Grows a c
grows_then a b c first second = record {
  more = first.more ++ second.more;
  asked = second.asked ∙ ap (λ names. names ++ second.more) first.asked ∙ append_assoc a.asked first.more second.more;
}

-- one more file
pub asking_grows : (name : List ℕ) (r : Reading) → Grows r (asking name r)
asking_grows name r = record { more = name ∷ []; asked = refl }

-- what reads a file only asks for more
abbrev pub ReadsOn : Reader → Type 0
ReadsOn below = (around : ℕ) (name text : List ℕ) (r : Reading) → Grows r (below around name text r)

cond_grows : (b : Bool) (old x y : Reading) → Grows old x → Grows old y → Grows old (cond b x y)
cond_grows true old x y hx hy = hx
cond_grows false old x y hx hy = hy

refused_grows : (here : Here) (s : Statement) (code : ℕ) (old r : Reading) → Grows old r → Grows old (refused here.file s.line code r)
refused_grows here s code old r h = record { more = h.more; asked = h.asked }

load_grows : (here : Here) (s : Statement) (optional : Bool) (old passed r : Reading) (read : List ℕ → Reading) (file : Option (List ℕ))
    → Grows old passed → Grows old r → ((text : List ℕ) → Grows old (read text)) → Grows old (by_load here s optional passed read file r)
load_grows here s optional old passed r read None hp hr hread = cond_grows optional old passed (refused here.file s.line FILE_ABSENT r) hp (refused_grows here s FILE_ABSENT old r hr)
load_grows here s optional old passed r read (Some text) hp hr hread =
    cond_grows (nat_le (length text) 1048576) old (read text) (refused here.file s.line FILE_TOO_LONG r) (hread text) (refused_grows here s FILE_TOO_LONG old r hr)

-- a file that is asked for, and what comes behind
pub asked_include : (files : Files) (below : Reader) → ReadsOn below → (here : Here) (levels : List Level) (s : Statement) (path : List ℕ) (optional : Bool) (r : Reading) (name : List ℕ)
    → Grows (asking name r) (by_load here s optional (place here s (stmt.Include path optional) (asking name r)) (λ text. below (here.around + length levels) name text (place here s (stmt.Include path optional) (asking name r))) (files name) (asking name r))
asked_include files below on here levels s path optional r name =
    let asked = asking name r in
    let placed = place here s (stmt.Include path optional) asked in
    let read = λ (text : List ℕ). below (here.around + length levels) name text placed in
    load_grows here s optional asked placed asked read (files name) (same_grows asked placed refl) (same_grows asked asked refl)
    (λ text. grows_then asked placed (read text) (same_grows asked placed refl) (on (here.around + length levels) name text placed))

pub include_grows : (files : Files) (below : Reader) → ReadsOn below → (here : Here) (levels : List Level) (s : Statement) (path : List ℕ) (optional : Bool) (r : Reading) → Grows r (include files below here levels s path optional r)
include_grows files below on here levels s path optional r =
    let name = under_prefix r.prefixes path in
    let asked = asking name r in
    let placed = place here s (stmt.Include path optional) asked in
    let whole = by_load here s optional placed (λ text. below (here.around + length levels) name text placed) (files name) asked in
    cond_grows (here.deepest || nat_le 4096 (length r.files)) r (refused here.file s.line TOO_MANY_FILES r) whole (refused_grows here s TOO_MANY_FILES r r (same_grows r r refl))
    (grows_then r asked whole (asking_grows name r) (asked_include files below on here levels s path optional r name))

place_grows : (here : Here) (s : Statement) (form : Stmt) (old r : Reading) → Grows old r → Grows old (place here s form r)
place_grows here s form old r h = record { more = h.more; asked = h.asked }

pop_grows : (here : Here) (s : Statement) (prefixes : List (List ℕ)) (r : Reading) → Grows r (pop_prefix here s prefixes r)
pop_grows here s [] r = refused_grows here s NO_PREFIX r r (same_grows r r refl)
pop_grows here s (top ∷ prefixes) r = place_grows here s (stmt.Prefix None) r (record r { prefixes = prefixes }) (same_grows r (record r { prefixes = prefixes }) refl)

pub treat_grows : (files : Files) (below : Reader) → ReadsOn below → (here : Here) (levels : List Level) (s : Statement) (form : Stmt) (r : Reading) → Grows r (treat files below here levels s form r)
treat_grows files below on here levels s (stmt.Include path optional) r = include_grows files below on here levels s path optional r
treat_grows files below on here levels s (stmt.Prefix None) r = pop_grows here s r.prefixes r
treat_grows files below on here levels s (stmt.Prefix (Some path)) r =
    let under : Reading = record r { prefixes = under_prefix r.prefixes path ∷ r.prefixes } in
    place_grows here s (stmt.Prefix (Some path)) r under (same_grows r under refl)
treat_grows files below on here levels s (stmt.Cond word name) r =
    cond_grows (is_misplaced (16 - here.around) (condition_of s) levels) r (refused here.file s.line BAD_NESTING r) (place here s (stmt.Cond word name) r)
    (refused_grows here s BAD_NESTING r r (same_grows r r refl)) (place_grows here s (stmt.Cond word name) r r (same_grows r r refl))
treat_grows files below on here levels s form r = place_grows here s form r r (same_grows r r refl)

option_grows : {A : Type 0} (old : Reading) (f : A → Reading) (o : Option A) (d : Reading) → ((x : A) → Grows old (f x)) → Grows old d → Grows old (option_map_or f o d)
option_grows old f None d hf hd = hd
option_grows old f (Some x) d hf hd = hf x

pub placed_grows : (files : Files) (below : Reader) → ReadsOn below → (here : Here) (levels : List Level) (s : Statement) (r : Reading) → Grows r (read_placed files below here levels s r)
placed_grows files below on here levels s r =
    let stay = same_grows r r refl in
    let formed = option_map_or (λ form. treat files below here levels s form r) (form_of true s.pieces) r in
    let judged = option_map_or (λ code. refused here.file s.line code r) (form_fault s.pieces) formed in
    cond_grows (nat_le 65536 (length r.placed)) r (refused here.file s.line TOO_MANY_STATEMENTS r) judged (refused_grows here s TOO_MANY_STATEMENTS r r stay)
    (option_grows r (λ code. refused here.file s.line code r) (form_fault s.pieces) formed (λ code. refused_grows here s code r r stay)
    (option_grows r (λ form. treat files below here levels s form r) (form_of true s.pieces) r (λ form. treat_grows files below on here levels s form r) stay))

pub statement_grows : (files : Files) (below : Reader) → ReadsOn below → (here : Here) (levels : List Level) (s : Statement) (r : Reading) → Grows r (read_statement files below here levels s r)
statement_grows files below on here levels s r =
    let stay = same_grows r r refl in
    let misplaced = is_misplaced (16 - here.around) (condition_of s) levels in
    let refusal = refused here.file s.line BAD_NESTING r in
    cond_grows (is_placed (condition_of s) levels) r (read_placed files below here levels s r) (cond misplaced refusal r)
    (placed_grows files below on here levels s r) (cond_grows misplaced r refusal r (refused_grows here s BAD_NESTING r r stay) stay)

pub end_grows : (here : Here) (levels : List Level) (r : Reading) → Grows r (read_end here levels r)
end_grows here [] r = same_grows r r refl
end_grows here (l ∷ levels) r = same_grows r (refused here.file l.line BAD_NESTING r) refl

pub statements_grow : (files : Files) (below : Reader) → ReadsOn below → (here : Here) (levels : List Level) (ss : List Statement) (r : Reading) → Grows r (read_statements files below here levels ss r)
statements_grow files below on here levels [] r = end_grows here levels r
statements_grow files below on here levels (s ∷ ss) r =
    let read = read_statement files below here levels s r in
    let rest = read_statements files below here (levels_behind r.placed s levels) ss read in
    let first = statement_grows files below on here levels s r in
    cond_grows (is_some read.fault) r read rest first (grows_then r read rest first (statements_grow files below on here (levels_behind r.placed s levels) ss read))

cut_grows : (files : Files) (below : Reader) → ReadsOn below → (here : Here) (text : List ℕ) (cut : Result (List Token) (ℕ × ℕ)) (r : Reading) → Grows r (read_cut files below here text cut r)
cut_grows files below on here text (Ok tokens) r =
    subst (λ (x : Reading). Grows r x) (items_read files below here (statements_in text tokens) r) (statements_grow files below on here [] (statements_in text tokens) r)
cut_grows files below on here text (Err fault) r = same_grows r (refused here.file fault.0 fault.1 r) refl

pub reader_grows : (n : ℕ) (files : Files) → ReadsOn (reader n files)
unfolding reader
reader_grows zero files around name text r = same_grows r r refl
reader_grows (suc n) files around name text r =
    let with_file : Reading = record r { files = r.files ++ name ∷ [] } in
    let here : Here = record { file = name; number = length r.files; around = around; deepest = n == 0 } in
    grows_then r with_file (read_cut files (reader n files) here text (cut_of text) with_file) (same_grows r with_file refl)
    (cut_grows files (reader n files) (reader_grows n files) here text (cut_of text) with_file)

pub first_grows : (files : Files) (name : List ℕ) (file : Option (List ℕ)) → Grows (asking name nothing_read) (read_first files name file)
first_grows files name None = let asked = asking name nothing_read in same_grows asked (refused name 0 FILE_ABSENT asked) refl
first_grows files name (Some text) =
    let asked = asking name nothing_read in
    cond_grows (nat_le (length text) 1048576) asked (reader 17 files 0 name text asked) (refused name 0 FILE_TOO_LONG asked)
    (reader_grows 17 files 0 name text asked) (same_grows asked (refused name 0 FILE_TOO_LONG asked) refl)

-- what was asked for is a front of what a later reading asks for
pub front_grown : (old whole : Reading) (start asked : Option (List (List ℕ))) → Grows old whole → AsksFront old.asked start asked → AsksFront whole.asked start asked
front_grown old whole start asked grown front =
    subst (λ (due : List (List ℕ)). AsksFront due start asked) (sym grown.asked) (front_more old.asked grown.more start asked front)

pub all_grown : (old whole : Reading) (start asked : Option (List (List ℕ))) → Grows old whole → asked ≡ asked_behind start old.asked → AsksFront whole.asked start asked
all_grown old whole start asked grown is = front_grown old whole start asked grown (front_all old.asked start asked is)

-- the first statement of several, and those behind it
pub step_grows : (files : Files) (below : Reader) → ReadsOn below → (here : Here) (levels : List Level) (s : Statement) (ss : List Statement) (r : Reading)
    → Grows (read_statement files below here levels s r) (read_statements files below here levels (s ∷ ss) r)
step_grows files below on here levels s ss r =
    let first = read_statement files below here levels s r in
    let rest = read_statements files below here (levels_behind r.placed s levels) ss first in
    cond_grows (is_some first.fault) first first rest (same_grows first first refl) (statements_grow files below on here (levels_behind r.placed s levels) ss first)

-- an include that asks for its file
asked_whole : (b : Bool) (old x y : Reading) → b ≡ false → Grows old y → Grows old (cond b x y)
asked_whole true old x y is h = absurd (cc is)
asked_whole false old x y is h = h

-- a front of what an include asks for, where its file is the last that was asked for
include_front : (files : Files) (below : Reader) → ReadsOn below → (here : Here) (levels : List Level) (s : Statement) (path : List ℕ) (optional : Bool) (r : Reading) (name : List ℕ) (start before after : Option (List (List ℕ)))
    → (here.deepest || nat_le 4096 (length r.files)) ≡ false → name ≡ under_prefix r.prefixes path → before ≡ asked_behind start r.asked → AsksFront (name ∷ []) before after
    → AsksFront (include files below here levels s path optional r).asked start after
include_front files below on here levels s path optional r name start before after few is since front =
    let due = under_prefix r.prefixes path in
    let asked = asking due r in
    let placed = place here s (stmt.Include path optional) asked in
    let whole = by_load here s optional placed (λ text. below (here.around + length levels) due text placed) (files due) asked in
    let here_asked : AsksFront asked.asked start after = front_behind r.asked (under_prefix r.prefixes path ∷ []) start before after since (subst (λ (n : List ℕ). AsksFront (n ∷ []) before after) is front) in
    front_grown asked (include files below here levels s path optional r) start after
    (asked_whole (here.deepest || nat_le 4096 (length r.files)) asked (refused here.file s.line TOO_MANY_FILES r) whole few (asked_include files below on here levels s path optional r due)) here_asked

-- a call that stopped asked for a front
pub stopped : {A E : Type 0} (P : E → Type 0) (due told : List (List ℕ)) (result : Result A E) (start asked : Option (List (List ℕ))) → IsErrAnd result P → AsksFront due start asked → AsksStep due told result start asked
stopped P due told (Ok done) start asked is front = absurd is
stopped P due told (Err stop) start asked is front = front

-- a file below the greatest depth, and not one too many
within_limits : (levels count : ℕ) → 1 ≤ levels → count < 4096 → (levels == 0 || nat_le 4096 count) ≡ false
within_limits levels count some few = grind (arith, nat_tests)

-- an include that stopped once its file was asked for
pub include_stopped : {A E : Type 0} (P : E → Type 0) (named : Files) (source : Source) (around : ℕ) (levels : List Level) (s : Statement) (wanted : Include) (old : Reading) (told : List (List ℕ)) (name : List ℕ) (result : Result A E) (start before after : Option (List (List ℕ)))
    → 1 ≤ source.levels → length old.files < 4096 → name ≡ under_prefix old.prefixes wanted.path → IsErrAnd result P → before ≡ asked_behind start old.asked → AsksFront (name ∷ []) before after
    → AsksStep (include_at named around source levels s wanted old).asked told result start after
include_stopped P named source around levels s wanted old told name result start before after some few is stop since front =
    stopped P (include_at named around source levels s wanted old).asked told result start after stop
    (include_front named (reader source.levels named) (reader_grows source.levels named) (here_of around source) levels s wanted.path wanted.optional old name start before after
    (within_limits source.levels (length old.files) some few) is since front)

-- the same of a call that asks for all that is due
pub stopped_all : {A E : Type 0} (P : E → Type 0) (due : List (List ℕ)) (result : Result A E) (start asked : Option (List (List ℕ))) → IsErrAnd result P → AsksFront due start asked → Asks due result start asked
stopped_all P due (Ok done) start asked is front = absurd is
stopped_all P due (Err stop) start asked is front = front

-- the same readings ask for the same
pub front_same : (a b : Reading) (start asked : Option (List (List ℕ))) → a ≡ b → AsksFront a.asked start asked → AsksFront b.asked start asked
front_same a b start asked is front = subst (λ (r : Reading). AsksFront r.asked start asked) is front

pub asks_same : {A E : Type 0} (a b : Reading) (result : Result A E) (start asked : Option (List (List ℕ))) → a ≡ b → Asks a.asked result start asked → Asks b.asked result start asked
asks_same a b result start asked is asks = subst (λ (r : Reading). Asks r.asked result start asked) is asks

-- what was asked for before, where a step asked for nothing
pub asked_still : (old new : List (List ℕ)) (start asked : Option (List (List ℕ))) → new ≡ old → asked ≡ asked_behind start old → asked ≡ asked_behind start new
asked_still old new start asked same is = is ∙ ap (asked_behind start) (sym same)

-- a whole reading of some tokens goes on behind their first statement
pub rest_grows : (files : Files) (below : Reader) → ReadsOn below → (here : Here) (levels : List Level) (text : List ℕ) (tokens statement rest : List Token) (r whole : Reading)
    → statements tokens ≡ statement ∷ statements rest → read_statements files below here levels (statements_in text tokens) r ≡ whole
    → Grows (read_statement files below here levels (statement_of text statement) r) whole
rest_grows files below on here levels text tokens statement rest r whole splits is =
    let ss : statements_in text tokens ≡ statement_of text statement ∷ statements_in text rest = ap (map (statement_of text)) splits in
    subst (λ (w : Reading). Grows (read_statement files below here levels (statement_of text statement) r) w) (ap (λ ss. read_statements files below here levels ss r) (sym ss) ∙ is)
    (step_grows files below on here levels (statement_of text statement) (statements_in text rest) r)

-- and behind what was read so far
pub whole_grows : (files : Files) (below : Reader) → ReadsOn below → (here : Here) (levels : List Level) (ss : List Statement) (r whole : Reading) → read_statements files below here levels ss r ≡ whole → Grows r whole
whole_grows files below on here levels ss r whole is = subst (Grows r) is (statements_grow files below on here levels ss r)

-- a statement with a fault is the last that is read
pub at_fault : (files : Files) (below : Reader) (here : Here) (levels : List Level) (text : List ℕ) (tokens statement rest : List Token) (r step whole : Reading)
    → statements tokens ≡ statement ∷ statements rest → read_statements files below here levels (statements_in text tokens) r ≡ whole
    → step ≡ read_statement files below here levels (statement_of text statement) r → is_some step.fault ≡ true → step ≡ whole
at_fault files below here levels text tokens statement rest r step whole splits is read fault =
    let ss : statements_in text tokens ≡ statement_of text statement ∷ statements_in text rest = ap (map (statement_of text)) splits in
    let first = read_statement files below here levels (statement_of text statement) r in
    let behind = read_statements files below here (levels_behind r.placed (statement_of text statement) levels) (statements_in text rest) first in
    let found : is_some first.fault ≡ true = ap (λ (r : Reading). is_some r.fault) (sym read) ∙ fault in
    read ∙ sym (ap (λ b. cond b first behind) found) ∙ ap (λ ss. read_statements files below here levels ss r) (sym ss) ∙ is

-- without a fault what stands behind it is read
pub beyond : (files : Files) (below : Reader) (here : Here) (levels after : List Level) (text : List ℕ) (tokens statement rest : List Token) (r step whole : Reading)
    → statements tokens ≡ statement ∷ statements rest → read_statements files below here levels (statements_in text tokens) r ≡ whole
    → step ≡ read_statement files below here levels (statement_of text statement) r → is_some step.fault ≡ false → after ≡ levels_behind r.placed (statement_of text statement) levels
    → read_statements files below here after (statements_in text rest) step ≡ whole
beyond files below here levels after text tokens statement rest r step whole splits is read clear follows =
    let ss : statements_in text tokens ≡ statement_of text statement ∷ statements_in text rest = ap (map (statement_of text)) splits in
    let first = read_statement files below here levels (statement_of text statement) r in
    let behind = read_statements files below here (levels_behind r.placed (statement_of text statement) levels) (statements_in text rest) first in
    let none : is_some first.fault ≡ false = ap (λ (r : Reading). is_some r.fault) (sym read) ∙ clear in
    ap (λ (ls : List Level). read_statements files below here ls (statements_in text rest) step) follows
    ∙ ap (λ (r' : Reading). read_statements files below here (levels_behind r.placed (statement_of text statement) levels) (statements_in text rest) r') read
    ∙ sym (ap (λ b. cond b first behind) none) ∙ ap (λ ss. read_statements files below here levels ss r) (sym ss) ∙ is

-- at the end of the tokens
pub at_end : (files : Files) (below : Reader) (here : Here) (levels : List Level) (text : List ℕ) (tokens : List Token) (r new whole : Reading)
    → tokens ≡ [] → read_statements files below here levels (statements_in text tokens) r ≡ whole → new ≡ read_end here levels r → new ≡ whole
at_end files below here levels text tokens r new whole none is ends =
    ends ∙ ap (λ (ts : List Token). read_statements files below here levels (statements_in text ts) r) (sym none) ∙ is

-- the conditions behind a statement, from its word, its line and whether that holds
pub follows : (levels after : List Level) (placed : List Placed) (s : Statement) (word : Option CondWord) (line : ℕ) (so : Bool)
    → after ≡ levels_after word line so levels → word ≡ condition_of s → line ≡ s.line → so ≡ holds word (names_declared placed s) → after ≡ levels_behind placed s levels
follows levels after placed s word line so is ew el eh =
    is ∙ ap (λ w. levels_after w line so levels) ew ∙ ap (λ (n : ℕ). levels_after (condition_of s) n so levels) el
    ∙ ap (λ (b : Bool). levels_after (condition_of s) s.line b levels) (eh ∙ ap (λ w. holds w (names_declared placed s)) ew)

-- the tokens behind the first statement lie within the text too
pub rest_within : (text : List ℕ) (tokens rest : List Token) → AreWithin text tokens → rest ≡ after_first is_stop tokens → AreWithin text rest
rest_within text tokens rest within behind =
    subst (AreWithin text) (sym behind) (All-drop (IsWithin text) (position_or_len is_stop tokens + 1) tokens within)
