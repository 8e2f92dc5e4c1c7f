-- What is wrong with a line, part by part and byte by byte.
use Rattle.std.proofs.Common.{◌≡◌, ℕ, zero, suc, ◌+◌, ◌<◌, ◌≤◌, Bool, true, false, cond, Option, Some, None, Result, List, [], ◌∷◌, length, drop, refl, ap, sym, ◌∙◌, subst, arith, Ok, Err, add-one, inl, inr, ◌⊎◌, length-drop}
use Rattle.std.specs.Prelude.{◌==◌, ◌||◌}
use Rattle.std.specs.List.{prefix_len}
use Rattle.std.proofs.lemmas.Bool.{or_cases}
use Rattle.std.proofs.lemmas.List.{drop-drop}
use Rattle.std.proofs.lemmas.List.Sums.{prefix_len-le-length}
use Rattle.cf_types.specs.declared.stmt.Token.{Token}
use Rattle.cf_types.specs.declared.stmt.TokenKind.TheVariants as kind
use Rattle.cf_types.specs.Lines.{lines_of}
use Rattle.config_rules.specs.Cut.{Part, all_parts, at_line, is_chunk_byte, is_mark_byte, is_space, parts_of, token, ◌>>=◌}
use Rattle.cf_lexer.specs.declared.front.Front.{Front}
use Rattle.cf_lexer.specs.Check.{ByteGoes, GoesBy, code_of, error_of}
use Rattle.cf_lexer.specs.Front.{IsWithin, front_at, is_plain_byte}
use Rattle.cf_lexer.specs.Line.{GoesOn, span_tokens, with_line}
use Rattle.cf_lexer.specs.Lines.{first_of, head_line, lines_behind, lines_from, rest_of}
use Rattle.cf_lexer.proofs.LineLemmas.{blank_goes_on, chunk_goes_on, line_ends, line_goes_on, line_stops, mark_goes_on}
use Rattle.cf_lexer.proofs.PlaceLemmas.{before_line, first_and_rest, first_shorter, lines_drop, run_in_line}

-- whatever tokens stand before a line, its code is the same
with_code : (before : List Token) (line at : ℕ) (r : Result (List Part) ℕ) → error_of (with_line before line at r) ≡ error_of r
with_code before line at (Ok parts) = refl
with_code before line at (Err code) = refl

-- a part that goes on leaves the code as it is
goes_code : (before after : List Token) (line at n : ℕ) (rest : List ℕ) → GoesOn before line at rest (Ok n) after → code_of (drop n rest) ≡ code_of rest
goes_code before after line at n rest goes =
    sym (with_code after line (at + n) (parts_of (drop n rest)))
    ∙ ap error_of goes.2
    ∙ with_code before line at (parts_of rest)

pub front_goes : (c : ℕ) (cs : List ℕ) (f : Front) → Ok f ≡ front_at c cs → IsWithin f (length cs + 1) → GoesBy (c ∷ cs) (Ok f.len)
front_goes c cs f e fits =
    let goes : GoesOn [] 0 0 (c ∷ cs) (Ok f.len) (span_tokens 0 0 f.token) = (fits.some, omega (arith, fits.fits), line_goes_on [] (span_tokens 0 0 f.token) 0 0 c cs f e refl) in
    (fits.some, omega (arith, fits.fits), goes_code [] (span_tokens 0 0 f.token) 0 0 f.len (c ∷ cs) goes)

pub front_stops : (c code : ℕ) (cs : List ℕ) → Err code ≡ front_at c cs → GoesBy (c ∷ cs) (Err code)
front_stops c code cs e = sym (with_code [] 0 0 (parts_of (c ∷ cs))) ∙ ap error_of (line_stops [] 0 0 code c cs e)

chunk_code : (c : ℕ) (cs : List ℕ) → is_chunk_byte c ≡ true → code_of (drop (prefix_len is_chunk_byte cs + 1) (c ∷ cs)) ≡ code_of (c ∷ cs)
chunk_code c cs h =
    let n = prefix_len is_chunk_byte cs + 1 in
    let after : List Token = token kind.Chunk 0 (0 + n) 0 ∷ [] in
    goes_code [] after 0 0 n (c ∷ cs) (chunk_goes_on [] after 0 0 c cs n h refl refl)

-- behind a run of bytes of a chunk
chunk_behind : (cs : List ℕ) → code_of (drop (prefix_len is_chunk_byte cs) cs) ≡ code_of cs
chunk_behind [] = refl
chunk_behind (d ∷ ds) = by_test (is_chunk_byte d) refl
  where
    by_test : (b : Bool) → is_chunk_byte d ≡ b → code_of (drop (prefix_len is_chunk_byte (d ∷ ds)) (d ∷ ds)) ≡ code_of (d ∷ ds)
    by_test true e =
        let n : prefix_len is_chunk_byte (d ∷ ds) ≡ prefix_len is_chunk_byte ds + 1 = ap (λ b. cond b (1 + prefix_len is_chunk_byte ds) 0) e ∙ omega arith in
        ap (λ m. code_of (drop m (d ∷ ds))) n
        ∙ chunk_code d ds e
    by_test false e = ap (λ b. code_of (drop (cond b (1 + prefix_len is_chunk_byte ds) 0) (d ∷ ds))) e

-- a byte that is allowed changes nothing
pub plain_goes : (c : ℕ) (cs : List ℕ) → is_plain_byte c ≡ true → code_of cs ≡ code_of (c ∷ cs)
plain_goes c cs h =
    by_kind (or_cases (is_space c || is_chunk_byte c) (is_mark_byte c) h)
  where
    mark : List Token
    mark = token kind.Mark 0 (0 + 1) 0 ∷ []

    by_two : (is_space c ≡ true) ⊎ (is_chunk_byte c ≡ true) → code_of cs ≡ code_of (c ∷ cs)
    by_two (inl e) = goes_code [] [] 0 0 1 (c ∷ cs) (blank_goes_on [] 0 0 c cs e)
    by_two (inr e) = sym (chunk_behind cs) ∙ ap (λ m. code_of (drop m (c ∷ cs))) (sym (add-one (prefix_len is_chunk_byte cs))) ∙ chunk_code c cs e

    by_kind : ((is_space c || is_chunk_byte c) ≡ true) ⊎ (is_mark_byte c ≡ true) → code_of cs ≡ code_of (c ∷ cs)
    by_kind (inl e) = by_two (or_cases (is_space c) (is_chunk_byte c) e)
    by_kind (inr e) = goes_code [] mark 0 0 1 (c ∷ cs) (mark_goes_on [] mark 0 0 c cs e refl)

-- nor does a run of them
plain_run : (n : ℕ) (line : List ℕ) → n ≤ prefix_len is_plain_byte line → code_of (drop n line) ≡ code_of line
plain_run zero line h = refl
plain_run (suc n) [] h = absurd (omega arith)
plain_run (suc n) (c ∷ cs) h = by_test (is_plain_byte c) refl (plain_run n cs)
  where
    by_test : (b : Bool) → is_plain_byte c ≡ b → (n ≤ prefix_len is_plain_byte cs → code_of (drop n cs) ≡ code_of cs) → code_of (drop n cs) ≡ code_of (c ∷ cs)
    by_test true e so = so (omega (arith, h, ap (λ b. cond b (1 + prefix_len is_plain_byte cs) 0) e)) ∙ plain_goes c cs e
    by_test false e so = absurd (omega (arith, h, ap (λ b. cond b (1 + prefix_len is_plain_byte cs) 0) e))

-- so many of them, and those behind them
pub plain_behind : (n : ℕ) (bytes : List ℕ) → n ≤ prefix_len is_plain_byte bytes → n + prefix_len is_plain_byte (drop n bytes) ≡ prefix_len is_plain_byte bytes
plain_behind zero bytes h = omega arith
plain_behind (suc n) [] h = absurd (omega arith)
plain_behind (suc n) (c ∷ cs) h = by_test (is_plain_byte c) refl (plain_behind n cs)
  where
    by_test : (b : Bool) → is_plain_byte c ≡ b → (n ≤ prefix_len is_plain_byte cs → n + prefix_len is_plain_byte (drop n cs) ≡ prefix_len is_plain_byte cs)
        → suc n + prefix_len is_plain_byte (drop n cs) ≡ prefix_len is_plain_byte (c ∷ cs)
    by_test true e so =
        let more : prefix_len is_plain_byte (c ∷ cs) ≡ 1 + prefix_len is_plain_byte cs = ap (λ b. cond b (1 + prefix_len is_plain_byte cs) 0) e in
        let rest : n + prefix_len is_plain_byte (drop n cs) ≡ prefix_len is_plain_byte cs = so (omega (arith, h, more)) in
        omega (arith, more, rest)
    by_test false e so = absurd (omega (arith, h, ap (λ b. cond b (1 + prefix_len is_plain_byte cs) 0) e))

-- four more of them
pub four_behind : (len : ℕ) (bytes front : List ℕ) → front ≡ drop len bytes → 4 ≤ prefix_len is_plain_byte front → len ≤ length bytes
    → len + prefix_len is_plain_byte (drop len bytes) ≡ prefix_len is_plain_byte bytes
    → (len + 4 ≤ length bytes) × (len + 4 + prefix_len is_plain_byte (drop (len + 4) bytes) ≡ prefix_len is_plain_byte bytes)
four_behind len bytes front is four within so_far =
    let many : 4 ≤ prefix_len is_plain_byte (drop len bytes) = subst (λ (xs : List ℕ). 4 ≤ prefix_len is_plain_byte xs) is four in
    let there : prefix_len is_plain_byte (drop len bytes) ≤ length (drop len bytes) = prefix_len-le-length is_plain_byte (drop len bytes) in
    let behind : 4 + prefix_len is_plain_byte (drop (len + 4) bytes) ≡ prefix_len is_plain_byte (drop len bytes) =
    ap (λ (xs : List ℕ). 4 + prefix_len is_plain_byte xs) (sym (drop-drop 4 len bytes)) ∙ plain_behind 4 (drop len bytes) many in (
      omega (arith, many, there, length-drop len bytes, within),
      omega (arith, so_far, behind),
    )

-- a run of them at the front of a line, by the text
pub run_goes : (first n : ℕ) (more : List ℕ) → is_plain_byte first ≡ true → n ≡ prefix_len is_plain_byte more → GoesBy (first ∷ first_of more) (Ok (n + 1))
run_goes first n more h is =
    let run : prefix_len is_plain_byte (first_of more) ≡ n = run_in_line is_plain_byte more refl ∙ sym is in
    let fits : n ≤ length (first_of more) = omega (arith, run, prefix_len-le-length is_plain_byte (first_of more)) in (
      omega arith,
      omega (arith, fits),
      ap (λ m. code_of (drop m (first ∷ first_of more))) (add-one n) ∙ plain_run n (first_of more) (omega (arith, run)) ∙ plain_goes first (first_of more) h,
    )

-- ---- the rest of a line

-- what a part that was passed leaves of a line
pub record Behind (place len : ℕ) (text : List ℕ) : Type 0 where
  pub within : place + len ≤ length text
  pub code : code_of (first_of (drop (place + len) text)) ≡ code_of (first_of (drop place text))
  pub behind : rest_of (drop (place + len) text) ≡ rest_of (drop place text)

pub goes_behind : (place len first : ℕ) (text more : List ℕ) → place < length text → drop place text ≡ first ∷ more → (first == 10) ≡ false
    → GoesBy (first ∷ first_of more) (Ok len) → Behind place len text
goes_behind place len first text more lt is differs goes =
    let line_is : first_of (drop place text) ≡ first ∷ first_of more = ap head_line (ap lines_of is ∙ before_line first more differs) in
    let fits : len ≤ length (first_of (drop place text)) = omega (arith, goes.1, ap length line_is) in
    let left : lines_of (drop (place + len) text) ≡ drop len (first_of (drop place text)) ∷ rest_of (drop place text) =
    ap lines_of (sym (drop-drop len place text)) ∙ lines_drop (drop place text) len fits in
    record {
      within = omega (arith, fits, first_shorter (drop place text), length-drop place text);
      code = ap (λ lines. code_of (head_line lines)) left ∙ ap (λ l. code_of (drop len l)) line_is ∙ goes.2 ∙ sym (ap code_of line_is);
      behind = ap lines_behind left;
    }

-- no part begins there
pub stuck_here : (place first code : ℕ) (text more : List ℕ) → drop place text ≡ first ∷ more → (first == 10) ≡ false → GoesBy (first ∷ first_of more) (Err code)
    → code_of (first_of (drop place text)) ≡ Some code
stuck_here place first code text more is differs stuck =
    let line_is : first_of (drop place text) ≡ first ∷ first_of more = ap head_line (ap lines_of is ∙ before_line first more differs) in
    ap code_of line_is ∙ stuck

-- nothing is left of the line
pub over_here : (place : ℕ) (text : List ℕ) → first_of (drop place text) ≡ [] → code_of (first_of (drop place text)) ≡ None
over_here place text none = ap code_of none ∙ sym (with_code [] 0 0 (parts_of [])) ∙ ap error_of (line_ends [] 0 0 [] (omega arith))

-- what a byte leads to, where its answer is this
pub byte_is : (first : ℕ) (more : List ℕ) (o p : Option ℕ) → o ≡ p → ByteGoes first more (Ok o) → ByteGoes first more (Ok p)
byte_is first more o p is goes = let Q : Option ℕ → Type 0 = λ q. ByteGoes first more (Ok q) in subst Q is goes

-- ---- the lines of a text

line_good : (n : ℕ) (line : List ℕ) (lines : List (List ℕ)) (r : Result (List Part) ℕ) → error_of r ≡ None
    → error_of (at_line n r >>= λ parts. all_parts (n + 1) lines >>= λ more. Ok (parts ∷ more)) ≡ error_of (all_parts (n + 1) lines)
line_good n line lines (Ok parts) h = by_rest (all_parts (n + 1) lines)
  where
    by_rest : (q : Result (List (List Part)) (ℕ × ℕ)) → error_of (q >>= λ more. Ok (parts ∷ more)) ≡ error_of q
    by_rest (Ok more) = refl
    by_rest (Err e) = refl
line_good n line lines (Err code) h = absurd (cc)

line_bad : (n code : ℕ) (lines : List (List ℕ)) (r : Result (List Part) ℕ) → error_of r ≡ Some code
    → error_of (at_line n r >>= λ parts. all_parts (n + 1) lines >>= λ more. Ok (parts ∷ more)) ≡ Some (n, code)
line_bad n code lines (Ok parts) h = absurd (cc)
line_bad n code lines (Err k) h = let same : k ≡ code = cc in ap (λ c. Some (n, c)) same

-- one line more was checked
pub checked_on : (text : List ℕ) (line place : ℕ) (next : Option ℕ) (whole : Option (ℕ × ℕ)) → code_of (first_of (drop place text)) ≡ None → rest_of (drop place text) ≡ lines_from text next
    → error_of (all_parts line (lines_of (drop place text))) ≡ whole → error_of (all_parts (line + 1) (lines_from text next)) ≡ whole
checked_on text line place next whole good behind so_far =
    ap (λ lines. error_of (all_parts (line + 1) lines)) (sym behind)
    ∙ sym (line_good line (first_of (drop place text)) (rest_of (drop place text)) (parts_of (first_of (drop place text))) good)
    ∙ ap (λ lines. error_of (all_parts line lines)) (sym (first_and_rest (drop place text)))
    ∙ so_far

-- a line that can't be cut
pub checked_bad : (text : List ℕ) (line place code : ℕ) (whole : Option (ℕ × ℕ)) → code_of (first_of (drop place text)) ≡ Some code
    → error_of (all_parts line (lines_of (drop place text))) ≡ whole → whole ≡ Some (line, code)
checked_bad text line place code whole bad so_far =
    sym so_far ∙ ap (λ lines. error_of (all_parts line lines)) (first_and_rest (drop place text))
    ∙ line_bad line code (rest_of (drop place text)) (parts_of (first_of (drop place text))) bad
