-- The second quote of a string, or what stands in its place.
use Rattle.std.proofs.Common.{◌≡◌, ℕ, ◌+◌, ◌<◌, ◌≤◌, true, false, cond, subst, Ok, Err, Some, List, [], ◌∷◌, length, get_or, take, drop, refl, ap, sym, ◌∙◌, arith, length-drop, ◌-◌}
use Rattle.std.specs.Prelude.{IfSome, Option, None, ◌==◌, take_while}
use Rattle.std.specs.List.{prefix_len}
use Rattle.std.proofs.lemmas.List.Folds.{length-prefix_len}
use Rattle.std.proofs.lemmas.List.Sums.{prefix_len-le-length}
use Rattle.std.proofs.lemmas.Bool.{eqb-true, false_from_ne_true}
use Rattle.cf_types.specs.declared.code.configuration.TheConstants.{BAD_BYTE, OPEN_STRING}
use Rattle.cf_types.specs.declared.stmt.TokenKind.TheVariants as kind
use Rattle.config_rules.specs.Cut.{Quoted, is_chunk_byte, is_text_byte, quoted_part}
use Rattle.cf_lexer.specs.declared.front.Front.{Front}
use Rattle.cf_lexer.specs.declared.front.Span.{Span}
use Rattle.cf_lexer.specs.Front.{IsWithin, front, front_at, front_result, span}
use Rattle.cf_lexer.proofs.FrontLemmas.{length_chunk}
use Rattle.cf_lexer.proofs.LineLemmas.{chunk_first}
use Rattle.cf_lexer.specs.Lines.{first_of, head_line}
use Rattle.cf_lexer.proofs.PlaceLemmas.{at_here, before_line, first_shorter, lines_drop, newline_here, run_in_line, text_done}

-- the string is as long in the text as in its line
pub text_run : (text : List ℕ) → prefix_len is_text_byte (first_of text) ≡ prefix_len is_text_byte text
text_run text = run_in_line is_text_byte text refl

pub text_run_length : (text : List ℕ) → length (take_while is_text_byte (first_of text)) ≡ prefix_len is_text_byte text
text_run_length text = length-prefix_len is_text_byte (first_of text) ∙ text_run text

-- the byte behind it, which is no newline, is the next of the line
pub byte_behind : (text : List ℕ) (n c d : ℕ) → n ≡ prefix_len is_text_byte text → n < length text → c ≡ get_or text n d → (c == 10) ≡ false
    → drop (prefix_len is_text_byte (first_of text)) (first_of text) ≡ c ∷ first_of (take (length text - (n + 1)) (drop (n + 1) text))
byte_behind text n c d is within here differs =
    let run : prefix_len is_text_byte (first_of text) ≡ n = text_run text ∙ sym is in
    let more : List ℕ = take (length text - (n + 1)) (drop (n + 1) text) in
    let fits : n ≤ length (first_of text) = omega (arith, sym run, prefix_len-le-length is_text_byte (first_of text)) in
    let there : drop n text ≡ c ∷ more = at_here text n d within ∙ ap (λ b. b ∷ more) (sym here) in
    ap (λ k. drop k (first_of text)) run
    ∙ sym (ap head_line (lines_drop text n fits))
    ∙ ap first_of there ∙ ap head_line (before_line c more differs)

-- a line is longer than the string where another byte stands behind it
pub byte_within : (text : List ℕ) (n c d : ℕ) → n ≡ prefix_len is_text_byte text → n < length text → c ≡ get_or text n d → (c == 10) ≡ false → n + 1 ≤ length (first_of text)
byte_within text n c d is within here differs =
    omega (arith, text_run text, is, ap length (byte_behind text n c d is within here differs), length-drop (prefix_len is_text_byte (first_of text)) (first_of text))

-- the second quote
pub quoted_is : (text : List ℕ) (n c d : ℕ) → n ≡ prefix_len is_text_byte text → n < length text → c ≡ get_or text n d → c ≡ 34
    → Ok (front (n + 2) (Some (span kind.Text 1 (n + 1)))) ≡ front_result (quoted_part (take_while is_text_byte (first_of text)) (drop (prefix_len is_text_byte (first_of text)) (first_of text)))
quoted_is text n c d is within here quote =
    let bytes = take_while is_text_byte (first_of text) in
    let len : length bytes ≡ n = text_run_length text ∙ sym is in
    ap (λ k. Ok (front (k + 2) (Some (span kind.Text 1 (k + 1))))) (sym len)
    ∙ sym (ap (λ xs. front_result (quoted_part bytes xs)) (byte_behind text n 34 d is within (sym quote ∙ here) refl))

-- another byte
pub other_is : (text : List ℕ) (n c d : ℕ) → n ≡ prefix_len is_text_byte text → n < length text → c ≡ get_or text n d → (c ≡ 10 → ⊥) → (c ≡ 34 → ⊥)
    → Err BAD_BYTE ≡ front_result (quoted_part (take_while is_text_byte (first_of text)) (drop (prefix_len is_text_byte (first_of text)) (first_of text)))
other_is text n c d is within here newline quote =
    let bytes = take_while is_text_byte (first_of text) in
    let no_newline : (c == 10) ≡ false = false_from_ne_true (c == 10) (λ e. newline (eqb-true c 10 e)) in
    let no_quote : (c == 34) ≡ false = false_from_ne_true (c == 34) (λ e. quote (eqb-true c 34 e)) in
    sym (ap (λ xs. front_result (quoted_part bytes xs)) (byte_behind text n c d is within here no_newline)
    ∙ ap (λ b. front_result (cond b (Ok (Quoted bytes)) (Err BAD_BYTE))) no_quote)

ends_line : (text : List ℕ) (n : ℕ) → n ≡ prefix_len is_text_byte text → first_of (drop n text) ≡ []
    → Err OPEN_STRING ≡ front_result (quoted_part (take_while is_text_byte (first_of text)) (drop (prefix_len is_text_byte (first_of text)) (first_of text)))
ends_line text n is none =
    let run : prefix_len is_text_byte (first_of text) ≡ n = text_run text ∙ sym is in
    let fits : n ≤ length (first_of text) = omega (arith, sym run, prefix_len-le-length is_text_byte (first_of text)) in
    let over : drop (prefix_len is_text_byte (first_of text)) (first_of text) ≡ [] = ap (λ k. drop k (first_of text)) run ∙ sym (ap head_line (lines_drop text n fits)) ∙ none in
    sym (ap (λ xs. front_result (quoted_part (take_while is_text_byte (first_of text)) xs)) over)

-- the end of the line, by the end of the text or by a newline
pub ends_text : (text : List ℕ) (n : ℕ) → n ≡ prefix_len is_text_byte text → length text ≤ n
    → Err OPEN_STRING ≡ front_result (quoted_part (take_while is_text_byte (first_of text)) (drop (prefix_len is_text_byte (first_of text)) (first_of text)))
ends_text text n is past =
    ends_line text n is (ap head_line (text_done n text past))

pub ends_here : (text : List ℕ) (n c d : ℕ) → n ≡ prefix_len is_text_byte text → n < length text → c ≡ get_or text n d → c ≡ 10
    → Err OPEN_STRING ≡ front_result (quoted_part (take_while is_text_byte (first_of text)) (drop (prefix_len is_text_byte (first_of text)) (first_of text)))
ends_here text n c d is within here newline =
    ends_line text n is (ap head_line (newline_here n c text (take (length text - (n + 1)) (drop (n + 1) text)) (at_here text n d within ∙ ap (λ b. b ∷ take (length text - (n + 1)) (drop (n + 1) text)) (sym here)) (ap (λ b. b == 10) newline)))

-- a chunk at the front of a line
pub chunk_front : (c n : ℕ) (more : List ℕ) → is_chunk_byte c ≡ true → n ≡ prefix_len is_chunk_byte more + 1
    → (Ok (front n (Some (span kind.Chunk 0 n))) ≡ front_at c (first_of more)) × (n ≤ length (first_of more) + 1)
chunk_front c n more h is =
    let run : prefix_len is_chunk_byte (first_of more) ≡ prefix_len is_chunk_byte more = run_in_line is_chunk_byte more refl in
    let len : length (c ∷ take_while is_chunk_byte (first_of more)) ≡ n = omega (arith, length_chunk c (first_of more), run, is) in (
      ap (λ m. Ok (front m (Some (span kind.Chunk 0 m)))) (sym len) ∙ sym (ap front_result (chunk_first c (first_of more) h)),
      omega (arith, is, run, prefix_len-le-length is_chunk_byte (first_of more)),
    )

pub chunk_within : (f : Front) (n most : ℕ) → f ≡ front n (Some (span kind.Chunk 0 n)) → 1 ≤ n → n ≤ most → IsWithin f most
chunk_within f n most is some fits = subst (λ (g : Front). IsWithin g most) (sym is) (record { some = some; fits = fits; token = (omega arith, omega arith) })

span_fits : (t : Option Span) (at len n : ℕ) → IfSome t (λ s. (s.start ≤ len) × (s.end ≤ len)) → at + len < n → IfSome t (λ s. (at + s.start < n) × (at + s.end < n))
span_fits None at len n h lt = tt
span_fits (Some s) at len n h lt = (omega (arith, h.0, lt), omega (arith, h.1, lt))

-- the token of a part lies within the text
pub token_fits : (f : Front) (at n : ℕ) (more : List ℕ) → IsWithin f (length (first_of more) + 1) → at + length more + 1 < n → IfSome f.token (λ s. (at + s.start < n) × (at + s.end < n))
token_fits f at n more within lt = span_fits f.token at f.len n within.token (omega (arith, within.fits, first_shorter more, lt))
