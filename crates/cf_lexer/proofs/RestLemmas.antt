-- What is left of a text from a statement on.
use Rattle.std.proofs.Common.{◌≡◌, ℕ, ◌+◌, ◌-◌, ◌<◌, ◌≤◌, ◌&&◌, ◌||◌, Bool, true, false, cond, not, Option, Some, None, Result, List, [], ◌∷◌, ◌++◌, length, take, drop, refl, ap, sym, ◌∙◌, subst, arith, Ok, Err, append_assoc, append-nil, length-append}
use Rattle.std.specs.Prelude.{All, IfErr, IfSome, ◌==◌, find, slice_range, take_while}
use Rattle.std.specs.List.{list_any, onto_first, prefix_len}
use Rattle.std.proofs.lemmas.List.Elements.{All-append, All-cons, All-head, All-nil, All-tail}
use Rattle.std.proofs.lemmas.List.Folds.{length-prefix_len}
use Rattle.cf_types.specs.declared.code.configuration.TheConstants.{BAD_BYTE}
use Rattle.cf_types.specs.declared.keyword.TheConstants.{CONDITION_WORDS}
use Rattle.cf_types.specs.declared.stmt.CondWord.{CondWord}
use Rattle.cf_types.specs.declared.stmt.Token.{Token}
use Rattle.cf_types.specs.declared.stmt.TokenKind.TheVariants as kind
use Rattle.cf_types.specs.Lines.{lines_of}
use Rattle.config_rules.specs.Cut.{Part, Space, Comment, Quoted, Chunk, Mark, LineCut, all_parts, at_line, begins_statement, cut_of, first_part, has_token, is_chunk_byte, is_over, is_space, is_stop, line_tokens, lines_tokens, parts_of, piece, quoted_part, spelling, statements, stop_behind, token, ◌>>=◌}
use Rattle.config_rules.specs.Form.{condition_spelling, is_word}
use Rattle.config_rules.proofs.CutLaws.{both_left, both_right, parts_sound}
use Rattle.config_rules.proofs.Parts.{cond_both, first_cases, parts_step}
use Rattle.cf_lexer.specs.declared.rest.Cutting.{Cutting as Cut}
use Rattle.cf_lexer.specs.declared.rest.Rest.{Rest}
use Rattle.cf_lexer.specs.declared.line.LexStop.{LexStop}
use Rattle.cf_lexer.specs.declared.line.LexStop.TheVariants.{Fault, Memory}
use Rattle.cf_lexer.specs.Check.{TellsFault, code_of, error_of, fault_from}
use Rattle.cf_lexer.specs.Line.{IsFaultOf, Shows, with_line}
use Rattle.cf_lexer.specs.Lines.{begins, first_of, lines_from, rest_of}
use Rattle.cf_lexer.specs.Rest.{IsNext, IsRest, MayRest, Passes, all_result, condition_in, first_condition, is_closed, is_condition_word, names_condition, rest_tokens, tokens_from, value_or_none}
use Rattle.cf_lexer.proofs.PlaceLemmas.{first_and_rest, next_place, next_within, place_of, run_in_line, so_far_at, text_further}
use Rattle.cf_lexer.proofs.TextLemmas.{begins_cut, fault_is, start_with, text_begins, text_ends}
use Rattle.cf_lexer.proofs.TextWords.{finish, with_stop}

-- ---- where tokens are given

abbrev Parts : Type 0
Parts = Result (List (List Part)) (ℕ × ℕ)

pub ok_value : {E : Type 0} (r : Result (List Token) E) (tokens : List Token) → r ≡ Ok tokens → r ≡ Ok (value_or_none r)
ok_value (Ok ts) tokens h = refl
ok_value (Err e) tokens h = absurd (cc)

value_is : {E : Type 0} (r : Result (List Token) E) (tokens : List Token) → r ≡ Ok tokens → value_or_none r ≡ tokens
value_is r tokens h = ap value_or_none h

-- a text from a statement on
pub start_from : (text : List ℕ) (line place : ℕ) → finish [] line place (lines_of (drop place text)) ≡ tokens_from text line place
start_from text line place = start_with line place (all_parts line (lines_of (drop place text)))

-- the first line can be cut
line_cut : (before : List Token) (line at : ℕ) (lines : List (List ℕ)) (whole : List Token) (r : Result (List Part) ℕ) (q : Parts)
    → ((at_line line r >>= λ parts. q >>= λ more. Ok (parts ∷ more)) >>= λ parts. Ok (with_stop before parts ++ lines_tokens line at parts)) ≡ Ok whole → error_of r ≡ None
line_cut before line at lines whole (Ok parts) q h = refl
line_cut before line at lines whole (Err code) q h = absurd (cc)

pub first_good : (before : List Token) (text : List ℕ) (line place : ℕ) (whole : List Token) → finish before line place (lines_of (drop place text)) ≡ Ok whole → code_of (first_of (drop place text)) ≡ None
first_good before text line place whole h =
    line_cut before line place (rest_of (drop place text)) whole (parts_of (first_of (drop place text))) (all_parts (line + 1) (rest_of (drop place text)))
    (ap (finish before line place) (sym (first_and_rest (drop place text))) ∙ h)

pub parts_given : (line : List ℕ) → code_of line ≡ None → (ps : List Part) × (parts_of line ≡ Ok ps)
parts_given line good = by_result (parts_of line) refl
  where
    by_result : (r : Result (List Part) ℕ) → parts_of line ≡ r → (ps : List Part) × (parts_of line ≡ Ok ps)
    by_result (Ok ps) e = (ps, e)
    by_result (Err code) e = absurd (let k : error_of (parts_of line) ≡ Some code = ap error_of e in cc)

-- ---- at a line that begins a statement

over_there : (ps : List Part) (more : List (List Part)) → (has_token ps && begins_statement ps) ≡ true → is_over (ps ∷ more) ≡ true
over_there ps more h =
    ap (λ b. cond b (begins_statement ps) (is_over more)) (both_left (has_token ps) (begins_statement ps) h) ∙ both_right (has_token ps) (begins_statement ps) h

stopped_with : (before : List Token) (line place : ℕ) (first : List ℕ) (whole : List Token) (r : Result (List Part) ℕ) (q : Parts) → parts_of first ≡ r → begins first ≡ true
    → ((at_line line r >>= λ parts. q >>= λ more. Ok (parts ∷ more)) >>= λ parts. Ok (with_stop before parts ++ lines_tokens line place parts)) ≡ Ok whole
    → ((at_line line r >>= λ parts. q >>= λ more. Ok (parts ∷ more)) >>= λ parts. Ok (lines_tokens line place parts))
    ≡ Ok (value_or_none ((at_line line r >>= λ parts. q >>= λ more. Ok (parts ∷ more)) >>= λ parts. Ok (lines_tokens line place parts)))
    × (whole ≡ (before ++ stop_behind before) ++ value_or_none ((at_line line r >>= λ parts. q >>= λ more. Ok (parts ∷ more)) >>= λ parts. Ok (lines_tokens line place parts)))
stopped_with before line place first whole (Err code) q e begun h = absurd (cc)
stopped_with before line place first whole (Ok ps) (Err fault) e begun h = absurd (cc)
stopped_with before line place first whole (Ok ps) (Ok more) e begun h =
    let k : LineCut first ps = parts_sound first ps e in
    let new : (has_token ps && begins_statement ps) ≡ true = sym (ap begins k.0 ∙ begins_cut ps k.1) ∙ begun in
    let is : with_stop before (ps ∷ more) ++ lines_tokens line place (ps ∷ more) ≡ whole = cc in (
      refl,
      sym is ∙ ap (λ b. (before ++ cond b (stop_behind before) []) ++ lines_tokens line place (ps ∷ more)) (over_there ps more new),
    )

-- the tokens so far are a statement, and the rest begins there
pub stopped_at : (before : List Token) (text : List ℕ) (line place : ℕ) (whole : List Token) → begins (first_of (drop place text)) ≡ true → finish before line place (lines_of (drop place text)) ≡ Ok whole
    → (tokens_from text line place ≡ Ok (value_or_none (tokens_from text line place))) × (whole ≡ (before ++ stop_behind before) ++ value_or_none (tokens_from text line place))
stopped_at before text line place whole begun h =
    let first = first_of (drop place text) in
    let rest = rest_of (drop place text) in
    let lines : lines_of (drop place text) ≡ first ∷ rest = first_and_rest (drop place text) in
    let Goal : List (List ℕ) → Type 0 = λ ls. ((all_parts line ls >>= λ parts. Ok (lines_tokens line place parts)) ≡ Ok (value_or_none (all_parts line ls >>= λ parts. Ok (lines_tokens line place parts))))
    × (whole ≡ (before ++ stop_behind before) ++ value_or_none (all_parts line ls >>= λ parts. Ok (lines_tokens line place parts))) in
    subst Goal (sym lines) (stopped_with before line place first whole (parts_of first) (all_parts (line + 1) rest) refl begun (ap (finish before line place) (sym lines) ∙ h))

-- nothing is left
pub over_at : (before : List Token) (line at : ℕ) (whole : List Token) → finish before line at [] ≡ Ok whole → whole ≡ before ++ stop_behind before
over_at before line at whole h =
    let is : Ok (before ++ stop_behind before) ≡ Ok whole = sym (text_ends before (before ++ stop_behind before) line at [] (omega arith) refl) ∙ h in cc

-- ---- the tokens of one statement

abbrev pub IsPlain : Token → Type 0
IsPlain t = is_stop t ≡ false

pub line_plain : (line at : ℕ) (ps : List Part) → All IsPlain (line_tokens line at ps)
line_plain line at [] = All-nil IsPlain
line_plain line at (Space c ∷ ps) = line_plain line (at + length (spelling (Space c))) ps
line_plain line at (Comment b ∷ ps) = line_plain line (at + length (spelling (Comment b))) ps
line_plain line at (Quoted b ∷ ps) = All-cons IsPlain _ _ refl (line_plain line (at + length (spelling (Quoted b))) ps)
line_plain line at (Chunk b ∷ ps) = All-cons IsPlain _ _ refl (line_plain line (at + length (spelling (Chunk b))) ps)
line_plain line at (Mark b ∷ ps) = All-cons IsPlain _ _ refl (line_plain line (at + length (spelling (Mark b))) ps)

-- one stop stands behind some tokens
pub one_stop : (t : Token) (ts : List Token) → (s : Token) × (stop_behind (t ∷ ts) ≡ s ∷ []) × (is_stop s ≡ true)
one_stop t [] = (token kind.Stop t.end t.end t.line, refl, refl)
one_stop t (u ∷ us) = one_stop u us

closed_end : (xs : List Token) (s : Token) → is_stop s ≡ true → is_closed (xs ++ s ∷ []) ≡ true
closed_end [] s h = h
closed_end (x ∷ []) s h = h
closed_end (x ∷ y ∷ xs) s h = closed_end (y ∷ xs) s h

-- a statement with its stop
pub closed_statement : (tokens : List Token) → is_closed (tokens ++ stop_behind tokens) ≡ true
closed_statement [] = refl
closed_statement (t ∷ ts) =
    let stop = one_stop t ts in
    ap (λ xs. is_closed ((t ∷ ts) ++ xs)) stop.1 ∙ closed_end (t ∷ ts) stop.0 stop.2

pub split_at : (xs : List Token) (s : Token) (more : List Token) → All IsPlain xs → is_stop s ≡ true → statements (xs ++ s ∷ more) ≡ xs ∷ statements more
split_at [] s more plain stop = ap (λ b. cond b ([] ∷ statements more) (onto_first s (statements more))) stop
split_at (x ∷ xs) s more plain stop =
    ap (λ b. cond b ([] ∷ statements (xs ++ s ∷ more)) (onto_first x (statements (xs ++ s ∷ more)))) (All-head IsPlain x xs plain)
    ∙ ap (onto_first x) (split_at xs s more (All-tail IsPlain x xs plain) stop)

-- the first statement, and those behind it
pub statement_first : (tokens more : List Token) → 1 ≤ length tokens → All IsPlain tokens → statements ((tokens ++ stop_behind tokens) ++ more) ≡ tokens ∷ statements more
statement_first [] more some plain = absurd (omega arith)
statement_first (t ∷ ts) more some plain =
    let stop = one_stop t ts in
    ap statements (append_assoc (t ∷ ts) (stop_behind (t ∷ ts)) more)
    ∙ ap (λ xs. statements ((t ∷ ts) ++ (xs ++ more))) stop.1
    ∙ split_at (t ∷ ts) stop.0 more plain stop.2

-- ---- the first token of a line that begins a statement

none_found : (P : CondWord → Bool) (words : List CondWord) → list_any P words ≡ false → find P words ≡ None
none_found P [] h = refl
none_found P (w ∷ ws) h = by_test (P w) (none_found P ws) h
  where
    by_test : (b : Bool) → (list_any P ws ≡ false → find P ws ≡ None) → (b || list_any P ws) ≡ false → cond b (Some w) (find P ws) ≡ None
    by_test true so k = absurd (cc)
    by_test false so k = so k

-- the tokens of a line, of which the first is no condition word unless the line names one
pub record FirstIs (text : List ℕ) (place : ℕ) (tokens : List Token) : Type 0 where
  pub some : 1 ≤ length tokens
  pub quiet : names_condition (drop place text) ≡ false → first_condition text tokens ≡ None

pub more_first : (text : List ℕ) (place : ℕ) (tokens more : List Token) → FirstIs text place tokens → FirstIs text place (tokens ++ more)
more_first text place [] more f = absurd (omega (arith, f.some))
more_first text place (t ∷ ts) more f = record { some = omega arith; quiet = f.quiet }

-- a chunk in its text
chunk_there : (text : List ℕ) (place c : ℕ) (cs : List ℕ) → first_of (drop place text) ≡ c ∷ cs → is_chunk_byte c ≡ true
    → slice_range text place (place + length (c ∷ take_while is_chunk_byte cs)) ≡ take (prefix_len is_chunk_byte (drop place text)) (drop place text)
chunk_there text place c cs is h =
    let run : prefix_len is_chunk_byte (drop place text) ≡ 1 + prefix_len is_chunk_byte cs =
    sym (run_in_line is_chunk_byte (drop place text) refl) ∙ ap (prefix_len is_chunk_byte) is ∙ ap (λ b. cond b (1 + prefix_len is_chunk_byte cs) 0) h in
    let len : length (c ∷ take_while is_chunk_byte cs) ≡ prefix_len is_chunk_byte (drop place text) = omega (arith, length-prefix_len is_chunk_byte cs, run) in
    ap (λ n. slice_range text place (place + n)) len ∙ ap (λ k. take k (drop place text)) (over place (prefix_len is_chunk_byte (drop place text)))
  where
    over : (a n : ℕ) → a + n - a ≡ n
    over a n = omega arith

not_false : (b : Bool) → not b ≡ true → b ≡ false
not_false true h = absurd (cc)
not_false false h = refl

-- the tokens of the parts behind a first part
behind_part : (part : Part) (q : Result (List Part) ℕ) (ps : List Part) → (q >>= λ parts. Ok (part ∷ parts)) ≡ Ok ps → (rest : List Part) × (ps ≡ part ∷ rest)
behind_part part (Ok parts) ps h = (parts, let is : part ∷ parts ≡ ps = cc in sym is)
behind_part part (Err code) ps h = absurd (cc)

-- by the first part of a line
first_by_part : (text : List ℕ) (line place c : ℕ) (cs : List ℕ) (ps : List Part) → first_of (drop place text) ≡ c ∷ cs → begins (c ∷ cs) ≡ true
    → (first_part c cs >>= λ part. parts_of (drop (length (spelling part)) (c ∷ cs)) >>= λ parts. Ok (part ∷ parts)) ≡ Ok ps → FirstIs text place (line_tokens line place ps)
first_by_part text line place c cs ps is begun h =
    first_cases Q c cs
    (λ e g. absurd (let no : is_space c ≡ false = not_false (is_space c) (both_left (not (is_space c)) (not (c == 35)) begun) in cc))
    (λ e g. absurd (let no : (c == 35) ≡ false = not_false (c == 35) (both_right (not (is_space c)) (not (c == 35)) begun) in cc))
    (λ e. quoted_first (take_while _ cs) (drop (prefix_len _ cs) cs))
    (λ e g.
    let parts = behind_part (Chunk (c ∷ take_while is_chunk_byte cs)) _ ps g in
    by_parts parts.0 ps parts.1 (record { some = omega arith; quiet = λ quiet. chunk_quiet e quiet }))
    (λ e g. let parts = behind_part (Mark (c ∷ [])) _ ps g in by_parts parts.0 ps parts.1 (record { some = omega arith; quiet = λ quiet. refl }))
    (λ e g. let parts = behind_part (Mark (43 ∷ 61 ∷ [])) _ ps g in by_parts parts.0 ps parts.1 (record { some = omega arith; quiet = λ quiet. refl }))
    (λ e g. absurd (cc))
    h
  where
    K : Part → Result (List Part) ℕ
    K part = parts_of (drop (length (spelling part)) (c ∷ cs)) >>= λ parts. Ok (part ∷ parts)

    Q : Result Part ℕ → Type 0
    Q r = (r >>= K) ≡ Ok ps → FirstIs text place (line_tokens line place ps)

    by_parts : {part : Part} (rest qs : List Part) → qs ≡ part ∷ rest → FirstIs text place (line_tokens line place (part ∷ rest)) → FirstIs text place (line_tokens line place qs)
    by_parts rest qs e f = subst (λ (xs : List Part). FirstIs text place (line_tokens line place xs)) (sym e) f

    chunk_quiet : is_chunk_byte c ≡ true → names_condition (drop place text) ≡ false
        → condition_in (piece text (token kind.Chunk place (place + length (c ∷ take_while is_chunk_byte cs)) line)) ≡ None
    chunk_quiet e quiet =
        none_found (λ word. is_word (condition_spelling word) (piece text (token kind.Chunk place (place + length (c ∷ take_while is_chunk_byte cs)) line))) CONDITION_WORDS
        (ap is_condition_word (chunk_there text place c cs is e) ∙ quiet)

    quoted_first : (bytes rest : List ℕ) → Q (quoted_part bytes rest)
    quoted_first bytes [] g = absurd (cc)
    quoted_first bytes (d ∷ rest) g = cond_both Q (d == 34) (Ok (Quoted bytes)) (Err BAD_BYTE)
        (λ e k. let parts = behind_part (Quoted bytes) _ ps k in by_parts parts.0 ps parts.1 (record { some = omega arith; quiet = λ quiet. refl }))
        (λ e k. absurd (cc))
        g

-- the first token of a line that begins a statement
pub first_token : (text : List ℕ) (line place : ℕ) (ps : List Part) → begins (first_of (drop place text)) ≡ true → parts_of (first_of (drop place text)) ≡ Ok ps → FirstIs text place (line_tokens line place ps)
first_token text line place ps begun cut = by_line (first_of (drop place text)) refl begun cut
  where
    by_line : (l : List ℕ) → first_of (drop place text) ≡ l → begins l ≡ true → parts_of l ≡ Ok ps → FirstIs text place (line_tokens line place ps)
    by_line [] e b h = absurd (cc)
    by_line (c ∷ cs) e b h = first_by_part text line place c cs ps e b (sym (parts_step c cs) ∙ h)

-- ---- statement by statement

-- a statement whose lines up to here were passed: these are its tokens so far
pub record Passing (text : List ℕ) (r : Rest) (line : ℕ) (left : Option ℕ) : Type 0 where
  pub tokens : List Token
  pub plain : All IsPlain tokens
  pub first : FirstIs text r.place tokens
  pub so_far : finish tokens (line + 1) (place_of text left) (lines_from text left) ≡ tokens_from text r.line r.place
  pub within : IfSome left (λ place. (r.place < place) × (place ≤ length text))
  pub counted : line ≤ place_of text left

-- the first line of the rest
pub passing_first : (text : List ℕ) (r : Rest) (left : Option ℕ) → IsRest text r → rest_of (drop r.place text) ≡ lines_from text left → IfSome left (λ next. (r.place < next) × (next ≤ length text)) → Passing text r r.line left
passing_first text r left is behind further =
    let so_far = start_from text r.line r.place in
    let cut = parts_given (first_of (drop r.place text)) (first_good [] text r.line r.place (rest_tokens text (Some r)) (so_far ∙ is.whole)) in
    let tokens = line_tokens r.line r.place cut.0 in
    record {
      tokens = tokens;
      plain = line_plain r.line r.place cut.0;
      first = first_token text r.line r.place cut.0 is.begun cut.1;
      so_far =
          text_further text [] [] tokens r.line r.place left _ is.within (next_within left r.place (length text) further) behind
          (sym (ap (λ b. cond b ([] ++ stop_behind []) []) is.begun)) (ap (with_line [] r.line r.place) cut.1)
          (ap (finish [] r.line r.place) (sym (first_and_rest (drop r.place text))) ∙ so_far);
      within = further;
      counted = omega (arith, is.counted, next_place text r.place left is.within (next_within left r.place (length text) further) behind);
    }

further_on : (o : Option ℕ) (a b n : ℕ) → a < b → IfSome o (λ next. (b < next) × (next ≤ n)) → IfSome o (λ next. (a < next) × (next ≤ n))
further_on None a b n lt h = tt
further_on (Some next) a b n lt h = (omega (arith, lt, h.0), h.1)

-- one more line that begins no statement
pub passing_more : (text : List ℕ) (r : Rest) (line place : ℕ) (before left : Option ℕ) → IsRest text r → Passing text r line before → before ≡ Some place → begins (first_of (drop place text)) ≡ false
    → rest_of (drop place text) ≡ lines_from text left → IfSome left (λ next. (place < next) × (next ≤ length text)) → Passing text r (line + 1) left
passing_more text r line place before left is p here other behind further =
    let within : (r.place < place) × (place ≤ length text) = subst (λ (o : Option ℕ). IfSome o (λ place. (r.place < place) × (place ≤ length text))) here p.within in
    let most = next_within left place (length text) further in
    let so_far : finish p.tokens (line + 1) place (first_of (drop place text) ∷ rest_of (drop place text)) ≡ tokens_from text r.line r.place = so_far_at text p.tokens (line + 1) place before _ here p.so_far in
    let cut = parts_given (first_of (drop place text)) (first_good p.tokens text (line + 1) place (rest_tokens text (Some r)) (ap (finish p.tokens (line + 1) place) (first_and_rest (drop place text)) ∙ so_far ∙ is.whole)) in
    let more = line_tokens (line + 1) place cut.0 in
    record {
      tokens = p.tokens ++ more;
      plain = All-append IsPlain p.tokens more p.plain (line_plain (line + 1) place cut.0);
      first = more_first text r.place p.tokens more p.first;
      so_far =
          text_further text p.tokens p.tokens (p.tokens ++ more) (line + 1) place left _ within.1 most behind
          (sym (ap (λ b. cond b (p.tokens ++ stop_behind p.tokens) p.tokens) other)) (ap (with_line p.tokens (line + 1) place) cut.1) so_far;
      within = further_on left r.place place (length text) within.0 further;
      counted = omega (arith, p.counted, ap (place_of text) here, next_place text place left within.1 most behind);
    }

-- behind its last line: the next statement begins there, or there is none
pub passed_to : (text : List ℕ) (r : Rest) (line place : ℕ) (left : Option ℕ) → IsRest text r → Passing text r line left → left ≡ Some place → begins (first_of (drop place text)) ≡ true
    → IsNext text r (Some (record { line = line + 1; place = place }))
passed_to text r line place left is p here begun =
    let within : (r.place < place) × (place ≤ length text) = subst (λ (o : Option ℕ). IfSome o (λ place. (r.place < place) × (place ≤ length text))) here p.within in
    let next : Rest = record { line = line + 1; place = place } in
    let so_far : finish p.tokens (line + 1) place (lines_of (drop place text)) ≡ Ok (rest_tokens text (Some r)) =
    ap (finish p.tokens (line + 1) place) (first_and_rest (drop place text)) ∙ so_far_at text p.tokens (line + 1) place left _ here p.so_far ∙ is.whole in
    let stop = stopped_at p.tokens text (line + 1) place (rest_tokens text (Some r)) begun so_far in
    record {
      first = p.tokens;
      front = p.tokens ++ stop_behind p.tokens;
      whole = stop.1;
      splits = ap statements stop.1 ∙ statement_first p.tokens (rest_tokens text (Some next)) p.first.some p.plain;
      quiet = p.first.quiet;
      goes_on = within.0;
      rest = record { short = is.short; within = within.1; counted = omega (arith, p.counted, ap (place_of text) here); begun = begun; whole = stop.0 };
    }

pub passed_all : (text : List ℕ) (r : Rest) (line : ℕ) (left : Option ℕ) → IsRest text r → Passing text r line left → left ≡ None → IsNext text r None
passed_all text r line left is p none =
    let so_far : finish p.tokens (line + 1) (length text + 1) [] ≡ Ok (rest_tokens text (Some r)) =
    ap (λ o. finish p.tokens (line + 1) (place_of text o) (lines_from text o)) (sym none) ∙ p.so_far ∙ is.whole in
    let whole : rest_tokens text (Some r) ≡ p.tokens ++ stop_behind p.tokens = over_at p.tokens (line + 1) (length text + 1) (rest_tokens text (Some r)) so_far in
    record {
      first = p.tokens;
      front = p.tokens ++ stop_behind p.tokens;
      whole = whole ∙ sym (append-nil (p.tokens ++ stop_behind p.tokens));
      splits = ap statements (whole ∙ sym (append-nil (p.tokens ++ stop_behind p.tokens))) ∙ statement_first p.tokens [] p.first.some p.plain;
      quiet = p.first.quiet;
      goes_on = tt;
      rest = tt;
    }

-- ---- statements that are passed over

abbrev pub IsQuiet : List ℕ → List Token → Type 0
IsQuiet text ts = first_condition text ts ≡ None

pub passes_none : (text : List ℕ) (tokens : List Token) → Passes text tokens tokens
passes_none text tokens = record { front = []; whole = refl; passed = []; splits = refl; quiet = All-nil (IsQuiet text) }

pub passes_more : (text : List ℕ) (old : List Token) (r : Rest) (next : Option Rest) → Passes text old (rest_tokens text (Some r)) → names_condition (drop r.place text) ≡ false → IsNext text r next → Passes text old (rest_tokens text next)
passes_more text old r next p quiet n = record {
  front = p.front ++ n.front;
  whole = p.whole ∙ ap (λ ts. p.front ++ ts) n.whole ∙ sym (append_assoc p.front n.front (rest_tokens text next));
  passed = p.passed ++ n.first ∷ [];
  splits = p.splits ∙ ap (λ ss. p.passed ++ ss) n.splits ∙ sym (append_assoc p.passed (n.first ∷ []) (statements (rest_tokens text next)));
  quiet = All-append (IsQuiet text) p.passed (n.first ∷ []) p.quiet (All-cons (IsQuiet text) n.first [] (n.quiet quiet) (All-nil (IsQuiet text)));
}

-- where the rest begins, one past the end where there is none
abbrev pub rest_place : List ℕ → Option Rest → ℕ
rest_place text None = length text + 1
rest_place text (Some r) = r.place

pub rest_is : (text : List ℕ) (left : Option Rest) (r : Rest) → left ≡ Some r → MayRest text left → IsRest text r
rest_is text left r e m = subst (MayRest text) e m

pub next_further : (text : List ℕ) (r : Rest) (next : Option Rest) → IsNext text r next → r.place ≤ length text → r.place < rest_place text next
next_further text r None n within = omega (arith, within)
next_further text r (Some next) n within = n.goes_on

pub next_within_text : (text : List ℕ) (next : Option Rest) → MayRest text next → rest_place text next ≤ length text + 1
next_within_text text None m = omega arith
next_within_text text (Some next) m = omega (arith, m.within)

-- ---- the first statement of the rest is cut

line_grows : (before after : List Token) (line at : ℕ) (r : Result (List Part) ℕ) → with_line before line at r ≡ Ok after → length before ≤ length after
line_grows before after line at (Ok ps) h = let is : before ++ line_tokens line at ps ≡ after = cc in omega (arith, length-append before (line_tokens line at ps), ap length is)
line_grows before after line at (Err code) h = absurd (cc)

-- the tokens of a statement whose lines up to here were cut
pub record Cutting (text : List ℕ) (r : Rest) (tokens : List Token) (line : ℕ) (left : Option ℕ) : Type 0 where
  pub some : 1 ≤ length tokens
  pub so_far : finish tokens (line + 1) (place_of text left) (lines_from text left) ≡ tokens_from text r.line r.place
  pub within : IfSome left (λ place. (r.place < place) × (place ≤ length text))
  pub counted : line ≤ place_of text left

pub cutting_first : (text : List ℕ) (r : Rest) (before tokens : List Token) (left : Option ℕ) → IsRest text r → before ≡ [] → with_line before r.line r.place (parts_of (first_of (drop r.place text))) ≡ Ok tokens
    → rest_of (drop r.place text) ≡ lines_from text left → IfSome left (λ next. (r.place < next) × (next ≤ length text)) → Cutting text r tokens r.line left
cutting_first text r before tokens left is none cut behind further =
    let so_far = start_from text r.line r.place in
    let given = parts_given (first_of (drop r.place text)) (first_good [] text r.line r.place (rest_tokens text (Some r)) (so_far ∙ is.whole)) in
    let first : FirstIs text r.place (line_tokens r.line r.place given.0) = first_token text r.line r.place given.0 is.begun given.1 in
    let cut' : with_line [] r.line r.place (parts_of (first_of (drop r.place text))) ≡ Ok tokens = ap (λ ts. with_line ts r.line r.place (parts_of (first_of (drop r.place text)))) (sym none) ∙ cut in
    let same : Ok (line_tokens r.line r.place given.0) ≡ Ok tokens = sym (ap (with_line [] r.line r.place) given.1) ∙ cut' in
    let tokens_are : line_tokens r.line r.place given.0 ≡ tokens = cc in
    record {
      some = omega (arith, first.some, ap length tokens_are);
      so_far =
          text_further text [] [] tokens r.line r.place left _ is.within (next_within left r.place (length text) further) behind
          (sym (ap (λ b. cond b ([] ++ stop_behind []) []) is.begun)) cut'
          (ap (finish [] r.line r.place) (sym (first_and_rest (drop r.place text))) ∙ so_far);
      within = further;
      counted = omega (arith, is.counted, next_place text r.place left is.within (next_within left r.place (length text) further) behind);
    }

pub cutting_more : (text : List ℕ) (r : Rest) (line place : ℕ) (tokens after : List Token) (before left : Option ℕ) → IsRest text r → Cutting text r tokens line before → before ≡ Some place → begins (first_of (drop place text)) ≡ false
    → with_line tokens (line + 1) place (parts_of (first_of (drop place text))) ≡ Ok after
    → rest_of (drop place text) ≡ lines_from text left → IfSome left (λ next. (place < next) × (next ≤ length text)) → Cutting text r after (line + 1) left
cutting_more text r line place tokens after before left is p here other cut behind further =
    let within : (r.place < place) × (place ≤ length text) = subst (λ (o : Option ℕ). IfSome o (λ place. (r.place < place) × (place ≤ length text))) here p.within in
    let most = next_within left place (length text) further in
    record {
      some = omega (arith, p.some, line_grows tokens after (line + 1) place (parts_of (first_of (drop place text))) cut);
      so_far =
          text_further text tokens tokens after (line + 1) place left _ within.1 most behind
          (sym (ap (λ b. cond b (tokens ++ stop_behind tokens) tokens) other)) cut (so_far_at text tokens (line + 1) place before _ here p.so_far);
      within = further_on left r.place place (length text) within.0 further;
      counted = omega (arith, p.counted, ap (place_of text) here, next_place text place left within.1 most behind);
    }

pub cutting_good : (text : List ℕ) (r : Rest) (line place : ℕ) (tokens : List Token) (left : Option ℕ) → IsRest text r → Cutting text r tokens line left → left ≡ Some place → code_of (first_of (drop place text)) ≡ None
cutting_good text r line place tokens left is p here =
    first_good tokens text (line + 1) place (rest_tokens text (Some r))
    (ap (finish tokens (line + 1) place) (first_and_rest (drop place text)) ∙ so_far_at text tokens (line + 1) place left _ here p.so_far ∙ is.whole)

pub rest_good : (text : List ℕ) (r : Rest) → IsRest text r → code_of (first_of (drop r.place text)) ≡ None
rest_good text r is = first_good [] text r.line r.place (rest_tokens text (Some r)) (start_from text r.line r.place ∙ is.whole)

pub cut_to : (text : List ℕ) (r : Rest) (line place : ℕ) (tokens : List Token) (left : Option ℕ) → IsRest text r → Cutting text r tokens line left → left ≡ Some place → begins (first_of (drop place text)) ≡ true
    → ((tokens ++ stop_behind tokens) ++ rest_tokens text (Some (record { line = line + 1; place = place })) ≡ rest_tokens text (Some r)) × IsRest text (record { line = line + 1; place = place })
cut_to text r line place tokens left is p here begun =
    let within : (r.place < place) × (place ≤ length text) = subst (λ (o : Option ℕ). IfSome o (λ place. (r.place < place) × (place ≤ length text))) here p.within in
    let so_far : finish tokens (line + 1) place (lines_of (drop place text)) ≡ Ok (rest_tokens text (Some r)) =
    ap (finish tokens (line + 1) place) (first_and_rest (drop place text)) ∙ so_far_at text tokens (line + 1) place left _ here p.so_far ∙ is.whole in
    let stop = stopped_at tokens text (line + 1) place (rest_tokens text (Some r)) begun so_far in
    (sym stop.1, record { short = is.short; within = within.1; counted = omega (arith, p.counted, ap (place_of text) here); begun = begun; whole = stop.0 })

pub cut_all : (text : List ℕ) (r : Rest) (line : ℕ) (tokens : List Token) (left : Option ℕ) → IsRest text r → Cutting text r tokens line left → left ≡ None → (tokens ++ stop_behind tokens) ++ [] ≡ rest_tokens text (Some r)
cut_all text r line tokens left is p none =
    let so_far : finish tokens (line + 1) (length text + 1) [] ≡ Ok (rest_tokens text (Some r)) =
    ap (λ o. finish tokens (line + 1) (place_of text o) (lines_from text o)) (sym none) ∙ p.so_far ∙ is.whole in
    append-nil (tokens ++ stop_behind tokens) ∙ sym (over_at tokens (line + 1) (length text + 1) (rest_tokens text (Some r)) so_far)

pub stopped_some : (tokens new : List Token) → 1 ≤ length tokens → new ≡ tokens ++ stop_behind tokens → 1 ≤ length new
stopped_some tokens new some is = omega (arith, some, ap length is, length-append tokens (stop_behind tokens))

-- ---- a text that is checked from a statement on

finish_error : (before : List Token) (line at : ℕ) (r : Parts) → error_of (r >>= λ parts. Ok (with_stop before parts ++ lines_tokens line at parts)) ≡ error_of r
finish_error before line at (Ok parts) = refl
finish_error before line at (Err e) = refl

none_wrong : {E : Type 0} (r : Result (List Token) E) → error_of r ≡ None → r ≡ Ok (value_or_none r)
none_wrong (Ok tokens) h = refl
none_wrong (Err e) h = absurd (cc)

some_wrong : {E : Type 0} (r : Result (List Token) E) (e : E) → error_of r ≡ Some e → r ≡ Err e
some_wrong (Ok tokens) e h = absurd (cc)
some_wrong (Err k) e h = let same : k ≡ e = cc in ap Err same

from_place : (before : List Token) (text : List ℕ) (line place : ℕ) (whole : Result (List Token) (ℕ × ℕ)) → finish before line place (first_of (drop place text) ∷ rest_of (drop place text)) ≡ whole
    → finish before line place (lines_of (drop place text)) ≡ whole
from_place before text line place whole h = ap (finish before line place) (first_and_rest (drop place text)) ∙ h

-- a fault there is that of the text
pub check_fails : (text : List ℕ) (before : List Token) (line place : ℕ) (stop : LexStop) → TellsFault {A = Unit {0}} (fault_from text line place) (Err stop)
    → finish before line place (first_of (drop place text) ∷ rest_of (drop place text)) ≡ finish [] 1 0 (lines_of text) → Shows (cut_of text) (Err stop)
check_fails text before line place (Fault l code) told so_far =
    let here = from_place before text line place (finish [] 1 0 (lines_of text)) so_far in
    sym (text_begins text) ∙ sym here
    ∙ some_wrong (finish before line place (lines_of (drop place text))) (l, code) (finish_error before line place (all_parts line (lines_of (drop place text))) ∙ told)
check_fails text before line place Memory told so_far = tt

-- without a fault the text is cut up to there
pub cut_up_to : (text : List ℕ) (before tokens : List Token) (line place : ℕ) → length text ≤ 1048576 → place ≤ length text → line ≤ place + 1 → begins (first_of (drop place text)) ≡ true
    → tokens ≡ cond (begins (first_of (drop place text))) (before ++ stop_behind before) before → fault_from text line place ≡ None
    → finish before line place (first_of (drop place text) ∷ rest_of (drop place text)) ≡ finish [] 1 0 (lines_of text)
    → (cut_of text ≡ Ok (tokens ++ rest_tokens text (Some (record { line = line; place = place })))) × IsRest text (record { line = line; place = place }) × (is_closed tokens ≡ true)
cut_up_to text before tokens line place short within counted begun new told so_far =
    let here = from_place before text line place (finish [] 1 0 (lines_of text)) so_far in
    let lines = lines_of (drop place text) in
    let good : finish before line place lines ≡ Ok (value_or_none (finish before line place lines)) =
    none_wrong (finish before line place lines) (finish_error before line place (all_parts line lines) ∙ told) in
    let stop = stopped_at before text line place (value_or_none (finish before line place lines)) begun good in
    let tokens_are : tokens ≡ before ++ stop_behind before = new ∙ ap (λ b. cond b (before ++ stop_behind before) before) begun in (
      sym (text_begins text) ∙ sym here ∙ good ∙ ap Ok (stop.1 ∙ ap (λ ts. ts ++ rest_tokens text (Some (record { line = line; place = place }))) (sym tokens_are)),
      record { short = short; within = within; counted = counted; begun = begun; whole = stop.0 },
      ap is_closed tokens_are ∙ closed_statement before,
    )

pub fault_shown : (text : List ℕ) (r : Result Cut LexStop) → Shows (cut_of text) (all_result text r) → IfErr r (λ stop. IsFaultOf text stop)
fault_shown text (Ok c) h = tt
fault_shown text (Err stop) h = fault_is text (Err stop) h
