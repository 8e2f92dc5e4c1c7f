-- One more line of a text, with its stop.
use Rattle.std.proofs.Common.{◌≡◌, ℕ, suc, ◌+◌, ◌<◌, ◌≤◌, Bool, true, false, cond, not, ◌&&◌, List, [], ◌∷◌, ◌++◌, length, get_or, take, drop, ◌-◌, Some, None, refl, ap, sym, ◌∙◌, arith, Result, Ok, Err, append_assoc, append-nil}
use Rattle.std.specs.Prelude.{if◌then◌else◌, ◌==◌}
use Rattle.cf_types.specs.declared.stmt.Token.{Token}
use Rattle.cf_types.specs.declared.stmt.TokenKind.TheVariants as kind
use Rattle.cf_types.specs.Lines.{lines_of}
use Rattle.config_rules.specs.Cut.{token, Part, Space, Comment, Quoted, Chunk, Mark, spellings, is_part, is_mark_byte, is_space, is_chunk_byte, are_parts, parts_of, at_line, all_parts, cut_of, line_tokens, lines_tokens, has_token, begins_statement, is_over, stop_behind, LineCut, ◌>>=◌}
use Rattle.config_rules.proofs.CutLaws.{both_left, chunk_no_space, chunk_is_not, mark_is, parts_sound}
use Rattle.std.proofs.lemmas.Bool.{eqb-true}
use Rattle.std.proofs.lemmas.Bool.{false_from_ne_true}
use Rattle.std.proofs.lemmas.List.Splits.{length-slice_split, slice_split_first, slice_split_none}
use Rattle.std.proofs.lemmas.List.Sums.{fails_before_first, position_or_len_is}
use Rattle.std.specs.List.{onto_first, position_or_len}
use Rattle.std.specs.Prelude.{IfOk, IfErr}
use Rattle.memchr.specs.Find.{IsFirstByte, Nowhere, Passes, is_byte}
use Rattle.cf_lexer.specs.declared.line.LexStop.{LexStop}
use Rattle.cf_lexer.specs.declared.line.LexStop.TheVariants.{Fault, Memory}
use Rattle.config_rules.specs.Cut.{Cut}
use Rattle.config_rules.proofs.CutText.{cut_sound, cut_fault_sound}
use Rattle.cf_lexer.specs.Line.{Leaves, Shows, IsFaultOf, with_line}
use Rattle.cf_lexer.specs.Lines.{begins}
use Rattle.cf_lexer.proofs.TextWords.{with_stop, finish, total}

-- ---- how a line begins

and_false : (a : Bool) → false ≡ (a && false)
and_false true = refl
and_false false = refl

pub begins_cut : (ps : List Part) → are_parts ps ≡ true → begins (spellings ps) ≡ (has_token ps && begins_statement ps)
begins_cut [] h = refl
begins_cut (Space c ∷ ps) h =
    let part : is_space c ≡ true = both_left (is_space c) _ (both_left _ (are_parts ps) h) in
    rw part (and_false (has_token ps))
begins_cut (Comment b ∷ []) h = refl
begins_cut (Comment b ∷ p ∷ ps) h = absurd (cc)
begins_cut (Quoted b ∷ ps) h = refl
begins_cut (Chunk [] ∷ ps) h = absurd (cc)
begins_cut (Chunk (c ∷ cs) ∷ ps) h =
    let part : is_chunk_byte c ≡ true = both_left (is_chunk_byte c) _ (both_left (is_part (Chunk (c ∷ cs))) _ (both_left _ (are_parts ps) h)) in
    rw (chunk_no_space c part, chunk_is_not c 35 refl part) refl
begins_cut (Mark [] ∷ ps) h = absurd (cc)
begins_cut (Mark (c ∷ []) ∷ ps) h =
    let part : is_mark_byte c ≡ true = both_left (is_mark_byte c) _ (both_left _ (are_parts ps) h) in
    rw (mark_is is_space c refl part, mark_is (λ m. m == 35) c refl part) refl
begins_cut (Mark (c ∷ d ∷ []) ∷ ps) h =
    let part : (c == 43 && d == 61) ≡ true = both_left (c == 43 && d == 61) _ (both_left _ (are_parts ps) h) in
    ap (λ a. not (is_space a) && not (a == 35)) (eqb-true c 43 (both_left (c == 43) (d == 61) part))
begins_cut (Mark (c ∷ d ∷ a ∷ rest) ∷ ps) h = absurd (cc)

-- ---- the last token

stop_last : (xs : List Token) (t : Token) (ts : List Token) → stop_behind (xs ++ t ∷ ts) ≡ stop_behind (t ∷ ts)
stop_last [] t ts = refl
stop_last (x ∷ []) t ts = refl
stop_last (x ∷ y ∷ xs) t ts = stop_last (y ∷ xs) t ts

-- where a line has a token, the last one is in it
last_in : (ps : List Part) (xs : List Token) (line at : ℕ) → has_token ps ≡ true → stop_behind (xs ++ line_tokens line at ps) ≡ stop_behind (line_tokens line at ps)
last_in [] xs line at h = absurd (cc)
last_in (Space c ∷ ps) xs line at h = last_in ps xs line (at + 1) h
last_in (Comment b ∷ ps) xs line at h = last_in ps xs line (at + length (35 ∷ b)) h
last_in (Quoted b ∷ ps) xs line at h = stop_last xs _ _
last_in (Chunk b ∷ ps) xs line at h = stop_last xs _ _
last_in (Mark b ∷ ps) xs line at h = stop_last xs _ _

-- a blank line has none
none_in : (ps : List Part) (line at : ℕ) → has_token ps ≡ false → line_tokens line at ps ≡ []
none_in [] line at h = refl
none_in (Space c ∷ ps) line at h = none_in ps line (at + 1) h
none_in (Comment b ∷ ps) line at h = none_in ps line (at + length (35 ∷ b)) h
none_in (Quoted b ∷ ps) line at h = absurd (cc)
none_in (Chunk b ∷ ps) line at h = absurd (cc)
none_in (Mark b ∷ ps) line at h = absurd (cc)

-- ---- one line

no_stop : (b : Bool) (xs : List Token) → xs ++ (if b then [] else []) ≡ xs
no_stop true xs = append-nil xs
no_stop false xs = append-nil xs

-- the stop that belongs before a line stands there, and that behind it is left to the lines after it
stop_step : (before : List Token) (line at : ℕ) (ps : List Part) (lines : List (List Part)) (more : List Token) (has begin : Bool) → has_token ps ≡ has → begins_statement ps ≡ begin
    → with_stop (cond (has && begin) (before ++ stop_behind before) before ++ line_tokens line at ps) lines ++ more
    ≡ with_stop before (ps ∷ lines) ++ (line_tokens line at ps ++ (if is_over lines then stop_behind (line_tokens line at ps) else []) ++ more)
stop_step before line at ps lines more false begin h k =
    let none : line_tokens line at ps ≡ [] = none_in ps line at h in
    rw (none, h) (ap (λ xs. (xs ++ (if is_over lines then stop_behind xs else [])) ++ more) (append-nil before)
    ∙ sym (ap (λ xs. (before ++ (if is_over lines then stop_behind before else [])) ++ (xs ++ more)) (no_stop (is_over lines) [])))
stop_step before line at ps lines more true true h k =
    let last : stop_behind ((before ++ stop_behind before) ++ line_tokens line at ps) ≡ stop_behind (line_tokens line at ps) = last_in ps (before ++ stop_behind before) line at h in
    rw (h, k) (ap (λ s. (((before ++ stop_behind before) ++ line_tokens line at ps) ++ (if is_over lines then s else [])) ++ more) last
    ∙ simp append_assoc)
stop_step before line at ps lines more true false h k =
    let last : stop_behind (before ++ line_tokens line at ps) ≡ stop_behind (line_tokens line at ps) = last_in ps before line at h in
    rw (h, k) (ap (λ s. ((before ++ line_tokens line at ps) ++ (if is_over lines then s else [])) ++ more) last
    ∙ simp (append_assoc, append-nil))

finish_with : (before after : List Token) (n at bt : ℕ) (ps : List Part) (r : Result (List (List Part)) (ℕ × ℕ))
    → after ≡ cond (has_token ps && begins_statement ps) (before ++ stop_behind before) before ++ line_tokens n at ps → bt ≡ at + length (spellings ps) + 1
    → (r >>= λ parts. Ok (with_stop after parts ++ lines_tokens (n + 1) bt parts)) ≡ ((r >>= λ more. Ok (ps ∷ more)) >>= λ parts. Ok (with_stop before parts ++ lines_tokens n at parts))
finish_with before after n at bt ps (Err e) new place = refl
finish_with before after n at bt ps (Ok parts) new place =
    ap (λ m. Ok (with_stop after parts ++ lines_tokens (n + 1) m parts)) place
    ∙ ap (λ xs. Ok (with_stop xs parts ++ lines_tokens (n + 1) (at + length (spellings ps) + 1) parts)) new
    ∙ ap Ok (stop_step before n at ps parts (lines_tokens (n + 1) (at + length (spellings ps) + 1) parts) (has_token ps) (begins_statement ps) refl refl)

by_parts : (before stopped after : List Token) (n at : ℕ) (line : List ℕ) (lines : List (List ℕ)) (r : Result (List Part) ℕ) → parts_of line ≡ r
    → stopped ≡ cond (begins line) (before ++ stop_behind before) before → with_line stopped n at r ≡ Ok after
    → finish after (n + 1) (at + (length line + 1)) lines ≡ ((at_line n r >>= λ parts. all_parts (n + 1) lines >>= λ more. Ok (parts ∷ more)) >>= λ parts. Ok (with_stop before parts ++ lines_tokens n at parts))
by_parts before stopped after n at line lines (Err code) e stop h = absurd (cc)
by_parts before stopped after n at line lines (Ok ps) e stop h =
    let k : LineCut line ps = parts_sound line ps e in
    let begin : begins line ≡ (has_token ps && begins_statement ps) = ap begins k.0 ∙ begins_cut ps k.1 in
    let new : after ≡ stopped ++ line_tokens n at ps = cc in
    finish_with before after n at (at + (length line + 1)) ps (all_parts (n + 1) lines)
    (new ∙ ap (λ xs. xs ++ line_tokens n at ps) (stop ∙ ap (λ b. cond b (before ++ stop_behind before) before) begin))
    (omega (arith, ap length k.0))

-- a line was cut
pub text_goes_on : (before stopped after : List Token) (n at : ℕ) (line : List ℕ) (lines : List (List ℕ)) → stopped ≡ cond (begins line) (before ++ stop_behind before) before → with_line stopped n at (parts_of line) ≡ Ok after → finish after (n + 1) (at + (length line + 1)) lines ≡ finish before n at (line ∷ lines)
text_goes_on before stopped after n at line lines stop h = by_parts before stopped after n at line lines (parts_of line) refl stop h

by_fault : (before stopped : List Token) (n at code : ℕ) (r : Result (List Part) ℕ) (lines : List (List ℕ)) → with_line stopped n at r ≡ Err code → ((at_line n r >>= λ parts. all_parts (n + 1) lines >>= λ more. Ok (parts ∷ more)) >>= λ parts. Ok (with_stop before parts ++ lines_tokens n at parts)) ≡ Err (n, code)
by_fault before stopped n at code (Ok ps) lines h = absurd (cc)
by_fault before stopped n at code (Err k) lines h = let same : k ≡ code = cc in ap (λ c. Err (n, c)) same

-- a line can't be cut
pub text_stops : (before stopped : List Token) (n at code : ℕ) (line : List ℕ) (lines : List (List ℕ)) → with_line stopped n at (parts_of line) ≡ Err code → finish before n at (line ∷ lines) ≡ Err (n, code)
text_stops before stopped n at code line lines h = by_fault before stopped n at code (parts_of line) lines h

-- nothing is left of the text
pub text_ends : (before after : List Token) (n at : ℕ) (lines : List (List ℕ)) → length lines < 1 → after ≡ before ++ stop_behind before → finish before n at lines ≡ Ok after
text_ends before after n at [] h e = ap Ok (append-nil (before ++ stop_behind before) ∙ sym e)
text_ends before after n at (line ∷ lines) h e = absurd (omega arith)

pub start_with : (n at : ℕ) (r : Result (List (List Part)) (ℕ × ℕ)) → (r >>= λ parts. Ok (with_stop [] parts ++ lines_tokens n at parts)) ≡ (r >>= λ parts. Ok (lines_tokens n at parts))
start_with n at (Ok parts) = ap (λ xs. Ok (xs ++ lines_tokens n at parts)) (no_stop (is_over parts) [])
start_with n at (Err e) = refl

-- a text from its beginning
pub text_begins : (text : List ℕ) → finish [] 1 0 (lines_of text) ≡ cut_of text
text_begins text = start_with 1 0 (all_parts 1 (lines_of text))

-- the stop is that of the last token
pub stop_of : (ts : List Token) (t d : Token) → 0 < length ts → t ≡ get_or ts (length ts - 1) d → stop_behind ts ≡ token kind.Stop t.end t.end t.line ∷ []
stop_of [] t d h e = absurd (omega arith)
stop_of (x ∷ []) t d h e = ap (λ (y : Token). token kind.Stop y.end y.end y.line ∷ []) (sym e)
stop_of (x ∷ y ∷ xs) t d h e =
    let n : suc (suc (length xs)) - 1 ≡ suc (suc (length xs) - 1) = omega arith in
    stop_of (y ∷ xs) t d (omega arith) (e ∙ ap (λ m. get_or (x ∷ y ∷ xs) m d) n)

-- ---- the first line

-- the place of the first newline, or of the end
newline_from : (text : List ℕ) (k : ℕ) → k ≤ length text → Nowhere (Passes (is_byte 10) text) 0 k → (k < length text → Passes (is_byte 10) text k) → position_or_len (λ c. c == 10) text ≡ k
newline_from text k within none here = position_or_len_is (λ c. c == 10) text k 0 within (λ j lt. false_from_ne_true _ (none j (omega arith) lt)) here

-- a text with a newline
pub line_at : (text : List ℕ) (k : ℕ) → IsFirstByte (is_byte 10) text (Some k) → lines_of text ≡ take k text ∷ lines_of (drop (k + 1) text)
line_at text k first =
    let place : position_or_len (λ c. c == 10) text ≡ k = newline_from text k (omega (arith, first.0.high)) first.0.before (λ lt. first.1) in
    slice_split_first (λ c. c == 10) text 0 (omega (arith, place, first.0.high))
    ∙ ap (λ m. take m text ∷ lines_of (drop (m + 1) text)) place

-- a text without one
pub line_whole : (text : List ℕ) → IsFirstByte (is_byte 10) text None → lines_of text ≡ text ∷ []
line_whole text none =
    let place : position_or_len (λ c. c == 10) text ≡ length text = newline_from text (length text) (omega arith) none (λ lt. absurd (omega (arith, lt))) in
    slice_split_none (λ c. c == 10) text (λ k e m. fails_before_first (λ c. c == 10) text k e (omega (arith, place, m)))

-- all lines with their newlines are one byte longer than the text
pub total_first : (c : ℕ) (lines : List (List ℕ)) → 1 ≤ length lines → total (onto_first c lines) ≡ total lines + 1
total_first c [] h = absurd (omega arith)
total_first c (line ∷ lines) h = omega arith

pub lines_some : (text : List ℕ) → 1 ≤ length (lines_of text)
lines_some text = omega (arith, length-slice_split (λ c. c == 10) text)

pub total_lines : (text : List ℕ) → total (lines_of text) ≡ length text + 1
total_lines [] = refl
total_lines (c ∷ text) = by_newline (c == 10) (lines_of text) (total_lines text) (lines_some text)
  where
    by_newline : (b : Bool) (lines : List (List ℕ)) → total lines ≡ length text + 1 → 1 ≤ length lines → total (cond b ([] ∷ lines) (onto_first c lines)) ≡ length (c ∷ text) + 1
    by_newline true lines e h = omega (arith, e)
    by_newline false lines e h = omega (arith, e, total_first c lines h)

-- ---- what `cut` answers

-- where a line fails, so does the text
pub line_fails : (text : List ℕ) (before stopped after : List Token) (n at : ℕ) (line : List ℕ) (lines : List (List ℕ)) (stop : LexStop)
    → Leaves {A = Unit {0}} (with_line stopped n at (parts_of line)) n (Err stop) after → finish before n at (line ∷ lines) ≡ finish [] 1 0 (lines_of text) → Shows (cut_of text) (Err stop)
line_fails text before stopped after n at line lines (Fault l code) h e =
    sym (text_begins text) ∙ sym e ∙ text_stops before stopped n at code line lines h.1 ∙ ap (λ m. Err (m, code)) (sym h.0)
line_fails text before stopped after n at line lines Memory h e = tt

-- where no line is left, the text is cut
pub lines_end : (text : List ℕ) (before after : List Token) (n at : ℕ) → after ≡ before ++ stop_behind before
    → finish before n at [] ≡ finish [] 1 0 (lines_of text) → cut_of text ≡ Ok after
lines_end text before after n at stop e =
    sym (text_begins text) ∙ sym e ∙ text_ends before after n at [] (omega arith) stop

pub cut_is : (text : List ℕ) (r : Result (List Token) LexStop) → Shows (cut_of text) r → IfOk r (λ tokens. Cut text tokens)
cut_is text (Ok tokens) h = cut_sound text tokens h
cut_is text (Err stop) h = tt

pub fault_is : (text : List ℕ) (r : Result (List Token) LexStop) → Shows (cut_of text) r → IfErr r (λ stop. IsFaultOf text stop)
fault_is text (Ok tokens) h = tt
fault_is text (Err (Fault line code)) h = cut_fault_sound text line code h
fault_is text (Err Memory) h = tt
