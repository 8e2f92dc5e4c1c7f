-- A text that is one statement.
use Rattle.std.proofs.Common.{◌≡◌, ℕ, ◌+◌, cond, Bool, true, false, None, List, [], ◌∷◌, ◌++◌, length, map, refl, ap, sym, subst, ◌∙◌, append-nil}
use Rattle.std.specs.Prelude.{◌==◌, Ok, is_some, Option, Some}
use Rattle.std.proofs.lemmas.Bool.{eqb-true}
use Rattle.std.proofs.lemmas.List.{nil_from_length}
use Rattle.cf_types.specs.declared.stmt.CondWord.{CondWord}
use Rattle.cf_types.specs.declared.stmt.Stmt.{Stmt}
use Rattle.cf_types.specs.declared.stmt.Token.{Token}
use Rattle.cf_lexer.specs.Rest.{all_tokens, rest_tokens}
use Rattle.cf_lexer.specs.declared.rest.Cutting.{Cutting}
use Rattle.cf_lexer.specs.declared.rest.Rest.{Rest}
use Rattle.config_rules.specs.Cut.{cut_of, statements}
use Rattle.config_rules.specs.Form.{Form}
use Rattle.config_rules.specs.Reading.{Files, Here, Reader, Reading, Statement, condition_of, place, reader, statements_in}
use Rattle.cf_expand.specs.Alone.{IsPlacedAtOnce, ReadsAs, placed_alone}
use Rattle.cf_expand.specs.Levels.{levels_behind, read_statement, read_statements}
use Rattle.cf_expand.specs.Lines.{Parts, statement_of}
use Rattle.cf_expand.proofs.ReadLemmas.{formed_here}
use Rattle.cf_expand.proofs.ReaderLemmas.{first_here, opened_reads, with_file}

same_both : (b : Bool) (r : Reading) → cond b r r ≡ r
same_both true r = refl
same_both false r = refl

no_levels : (s : Statement) (r : Reading) → condition_of s ≡ None → levels_behind r.placed s [] ≡ []
no_levels s r none = rw none refl

-- where a file has one statement, which has no condition word, it is read
one_read : (files : Files) (below : Reader) (here : Here) (s : Statement) (r : Reading) → condition_of s ≡ None → read_statements files below here [] (s ∷ []) r ≡ read_statement files below here [] s r
one_read files below here s r none =
    let x = read_statement files below here [] s r in
    ap (λ ls. cond (is_some x.fault) x (read_statements files below here ls [] x)) (no_levels s r none)
    ∙ same_both (is_some x.fault) x

-- a text that was cut into the tokens of one statement
only_one : (text : List ℕ) (c : Cutting) (first rest : List Token) → c.rest ≡ None → Parts c.tokens first rest → length rest ≡ 0 → statements_in text (all_tokens text c) ≡ statement_of text first ∷ []
only_one text c first rest none parts empty =
    let all : all_tokens text c ≡ c.tokens = ap (λ (o : Option Rest). c.tokens ++ rest_tokens text o) none ∙ append-nil c.tokens in
    let gone : rest ≡ [] = nil_from_length rest empty in
    ap (λ ts. map (statement_of text) (statements ts)) all
    ∙ ap (map (statement_of text)) (parts.splits ∙ ap (λ ts. first ∷ statements ts) gone)

-- to read it is to place that statement
pub alone_reads : (text : List ℕ) (c : Cutting) (first rest : List Token) (s : Statement) (line : ℕ) (form : Stmt) → cut_of text ≡ Ok (all_tokens text c) → c.rest ≡ None → Parts c.tokens first rest → length rest ≡ 0
    → s ≡ statement_of text first → condition_of s ≡ None → line ≡ s.line → Form s.pieces form → IsPlacedAtOnce form → ReadsAs text line form
alone_reads text c first rest s line form cut none parts empty is quiet here formed at_once = λ n files around name r few.
    let between = with_file name r in
    let place_of = first_here n around name r in
    let opened : read_statements files (reader n files) place_of [] (statements_in text (all_tokens text c)) between ≡ reader (n + 1) files around name text r =
    opened_reads n files around name text text text name c (length r.files) r between refl refl refl refl refl cut in
    let one : read_statements files (reader n files) place_of [] (statements_in text (all_tokens text c)) between ≡ read_statement files (reader n files) place_of [] s between =
    ap (λ ss. read_statements files (reader n files) place_of [] ss between) (only_one text c first rest none parts empty ∙ ap (λ (x : Statement). x ∷ []) (sym is)) ∙ one_read files (reader n files) place_of s between quiet in
    let read : read_statement files (reader n files) place_of [] s between ≡ place place_of s form between =
    sym (formed_here files (reader n files) place_of [] s (condition_of s) form between between few refl refl formed refl) ∙ at_once files (reader n files) place_of [] s between in
    sym opened ∙ one ∙ read ∙ ap (λ l. placed_alone name l form r) (sym here)

none_of : {A : Type 0} (o : Option A) → false ≡ is_some o → o ≡ None
none_of None h = refl
none_of (Some x) h = absurd (cc)

-- the same by what the code looks at
pub alone_there : (text : List ℕ) (c : Cutting) (shown first rest : List Token) (s : Statement) (word : Option CondWord) (line : ℕ) (form : Stmt) → cut_of text ≡ Ok (all_tokens text c) → false ≡ is_some c.rest → shown ≡ c.tokens
    → Parts shown first rest → true ≡ (length rest == 0) → s ≡ statement_of text first → word ≡ condition_of s → false ≡ is_some word → line ≡ s.line → Form s.pieces form → IsPlacedAtOnce form → ReadsAs text line form
alone_there text c shown first rest s word line form cut none same parts empty is begins quiet here formed at_once =
    alone_reads text c first rest s line form cut (none_of c.rest none) (subst (λ (ts : List Token). Parts ts first rest) same parts) (eqb-true (length rest) 0 (sym empty)) is (sym begins ∙ none_of word quiet) here formed at_once
