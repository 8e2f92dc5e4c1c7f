-- The statements of a file, one after the other.
use Rattle.std.proofs.Common.{◌≡◌, ℕ, ◌+◌, ◌-◌, ◌<◌, arith, true, false, Option, Some, List, [], ◌∷◌, ◌++◌, length, ap, sym, subst, ◌∙◌}
use Rattle.std.specs.Prelude.{IfOk, IsErrAnd, OnOk, nat_le, Result, Ok, Err}
use Rattle.std.proofs.lemmas.Bool.Decides.{nat_tests}
use Rattle.cf_types.specs.declared.stmt.CondWord.{CondWord}
use Rattle.cf_types.specs.declared.stmt.Piece.{Piece}
use Rattle.cf_types.specs.declared.stmt.Stmt.{Stmt}
use Rattle.cf_types.specs.declared.stmt.Token.{Token}
use Rattle.cf_io.specs.Asked.{Asks, AsksFront}
use Rattle.cf_lexer.specs.Rest.{is_closed}
use Rattle.config_rules.specs.Form.{Form}
use Rattle.config_rules.specs.Reading.{Files, Here, Reader, Reading, Statement, condition_of, reader, statements_in}
use Rattle.cf_expand.specs.Levels.{Level, include, is_placed, read_placed, read_statement, read_statements, treat}
use Rattle.config_rules.specs.Written.{IsWritten}
use Rattle.config_rules.proofs.WrittenLaws.{form_written}
use Rattle.cf_expand.specs.declared.source.Include.{Include}
use Rattle.cf_expand.specs.declared.source.Opened.{Opened}
use Rattle.cf_expand.specs.declared.source.Source.{Source}
use Rattle.cf_expand.specs.declared.statement.Head.{Head}
use Rattle.cf_expand.specs.Alone.{IsPlacedAtOnce}
use Rattle.cf_expand.specs.Lines.{Parts, statement_of}
use Rattle.cf_expand.specs.Steps.{BeginsSo, IsBelow, entered, here_of, statement_at, went_on}
use Rattle.cf_expand.specs.Unread.{Uncut, all_left}
use Rattle.cf_expand.proofs.AskedLemmas.{front_grown, reader_grows, rest_grows, stopped_all}
use Rattle.cf_expand.proofs.UnreadLemmas.{whole_splits}

-- what follows from a fact of a call that went well
pub on_ok : {A E P Q : Type 0} (r : Result A E) → OnOk r P → (P → Q) → OnOk r Q
on_ok (Ok x) p f = f p
on_ok (Err e) p f = tt

-- a statement, what its include leads to, and the file that is still to be read there
pub included_whole : (named : Files) (source : Source) (around line : ℕ) (levels : List Level) (s : Statement) (wanted : Include) (i : Option Include) (opened : Option Opened) (between inner whole : Reading) → i ≡ Some wanted
    → s.line ≡ line → went_on named (reader source.levels named) (here_of around source) levels s i between ≡ whole
    → ((a : ℕ) (t : Statement) → t.line ≡ line → entered named (a + length levels) opened inner ≡ include named (reader source.levels named) (here_of a source) levels t wanted.path wanted.optional between)
    → entered named (around + length levels) opened inner ≡ whole
included_whole named source around line levels s wanted i opened between inner whole ei en step opening =
    opening around s en ∙ rw ei at step

-- the conditions around a file that is included
pub room_below : (source : Source) (below : Opened) (around : ℕ) (levels : List Level) (opened : Option Opened) → opened ≡ Some below → source.room ≡ 16 - around
    → IsBelow (source.room - length levels) (source.levels - 1) opened → below.source.room ≡ 16 - (around + length levels)
room_below source below around levels opened eo er is_below =
    let within = rw eo at is_below in
    omega (arith, within.0, er)

-- a statement, what its include leads to, and the file that is read there
pub included : (named : Files) (source : Source) (below : Opened) (around line : ℕ) (levels : List Level) (s : Statement) (wanted : Include) (i : Option Include) (opened : Option Opened) (between inner new whole : Reading) → i ≡ Some wanted → opened ≡ Some below
    → s.line ≡ line → source.room ≡ 16 - around
    → went_on named (reader source.levels named) (here_of around source) levels s i between ≡ whole
    → ((a : ℕ) (t : Statement) → t.line ≡ line → entered named (a + length levels) opened inner ≡ include named (reader source.levels named) (here_of a source) levels t wanted.path wanted.optional between)
    → IsBelow (source.room - length levels) (source.levels - 1) opened
    → ((a : ℕ) → below.source.room ≡ 16 - a → new ≡ entered named a (Some below) inner)
    → new ≡ whole
included named source below around line levels s wanted i opened between inner new whole ei eo en er step opening is_below reads =
    reads (around + length levels) (room_below source below around levels opened eo er is_below)
    ∙ rw eo at (included_whole named source around line levels s wanted i opened between inner whole ei en step opening)

-- a statement that was read has the written form of one
pub written_ok : {E : Type 0} (pieces : List Piece) (r : Result Stmt E) → IfOk r (λ s. Form pieces s) → IfOk r IsWritten
written_ok pieces (Ok s) formed = form_written pieces s formed.1
written_ok pieces (Err e) formed = tt

-- a statement of a part that is not left out, which has this form
placed_form : (files : Files) (below : Reader) (here : Here) (levels : List Level) (s : Statement) (form : Stmt) (old r : Reading) → length old.placed < 65536 → Form s.pieces form → r ≡ old
    → treat files below here levels s form r ≡ read_placed files below here levels s old
placed_form files below here levels s form old r few formed same =
    let room : nat_le 65536 (length old.placed) ≡ false = grind (arith, nat_tests) in
    let whole : read_placed files below here levels s old ≡ treat files below here levels s form old = rw (room, formed.0, formed.1) in
    ap (treat files below here levels s form) same ∙ sym whole

placed_here : (files : Files) (below : Reader) (here : Here) (levels : List Level) (s : Statement) (word : Option CondWord) (r : Reading) → word ≡ condition_of s → is_placed word levels ≡ true
    → read_placed files below here levels s r ≡ read_statement files below here levels s r
placed_here files below here levels s word r begins placed =
    let found : is_placed (condition_of s) levels ≡ true = ap (λ w. is_placed w levels) (sym begins) ∙ placed in
    let whole : read_statement files below here levels s r ≡ read_placed files below here levels s r = rw found in
    sym whole

-- and where its condition word leaves it in
pub formed_here : (files : Files) (below : Reader) (here : Here) (levels : List Level) (s : Statement) (word : Option CondWord) (form : Stmt) (old r : Reading) → length old.placed < 65536 → word ≡ condition_of s → is_placed word levels ≡ true → Form s.pieces form → r ≡ old
    → treat files below here levels s form r ≡ read_statement files below here levels s old
formed_here files below here levels s word form old r few begins placed formed same =
    placed_form files below here levels s form old r few formed same ∙ placed_here files below here levels s word old begins placed

-- the same of one that is placed, and does nothing else
pub placed_so : (files : Files) (below : Reader) (here : Here) (levels : List Level) (s : Statement) (head : Head) (form : Stmt) (old r new : Reading) → length old.placed < 65536 → BeginsSo head s → is_placed head.word levels ≡ true → Form s.pieces form → r ≡ old → IsPlacedAtOnce form
    → new ≡ record r { placed = r.placed ++ record { stmt = form; file = here.number; line = head.line } ∷ [] } → new ≡ read_statement files below here levels s old
placed_so files below here levels s head form old r new few begins placed formed same at_once is =
    is ∙ ap (λ (line : ℕ). record r { placed = r.placed ++ record { stmt = form; file = here.number; line = line } ∷ [] }) (sym begins.0)
    ∙ sym (at_once files below here levels s r) ∙ formed_here files below here levels s head.word form old r few (sym begins.1) placed formed same

-- a file that was read up to a call that stopped behind its next statement, or in it
pub step_stopped : {A E : Type 0} (P : E → Type 0) (named : Files) (source : Source) (around : ℕ) (levels : List Level) (left : Uncut) (first rest : List Token) (s : Statement) (r whole : Reading) (result : Result A E) (start asked : Option (List (List ℕ)))
    → is_closed left.kept ≡ true → Parts left.kept first rest → s ≡ statement_of source.text first
    → read_statements named (reader source.levels named) (here_of around source) levels (statements_in source.text (all_left left)) r ≡ whole
    → IsErrAnd result P → AsksFront (statement_at named around source levels s r).asked start asked → Asks whole.asked result start asked
step_stopped P named source around levels left first rest s r whole result start asked closed parts is so_far stop front =
    let below = reader source.levels named in
    let grown = rest_grows named below (reader_grows source.levels named) (here_of around source) levels source.text (all_left left) first (rest ++ left.more) r whole (whole_splits left.kept left.more first rest closed parts) so_far in
    stopped_all P whole.asked result start asked stop
    (front_grown (statement_at named around source levels (statement_of source.text first) r) whole start asked grown
    (subst (λ (one : Statement). AsksFront (statement_at named around source levels one r).asked start asked) is front))
