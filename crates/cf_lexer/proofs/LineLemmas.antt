use Rattle.std.proofs.Common.{◌≡◌, ℕ, ◌+◌, ◌<◌, true, Some, None, List, [], ◌∷◌, ◌++◌, length, drop, refl, ap, sym, ◌∙◌, arith, Result, Ok, Err, append_assoc, append-nil, length-append}
use Rattle.std.specs.Prelude.{◌==◌, take_while}
use Rattle.std.specs.List.{prefix_len}
use Rattle.std.proofs.lemmas.List.Sums.{prefix_len-le-length}
use Rattle.cf_types.specs.declared.stmt.Token.{Token}
use Rattle.cf_types.specs.declared.stmt.TokenKind.{TokenKind}
use Rattle.cf_types.specs.declared.stmt.TokenKind.TheVariants as kind
use Rattle.config_rules.specs.Cut.{Part, Space, Comment, Quoted, Chunk, Mark, spelling, first_part, is_chunk_byte, is_mark_byte, is_space, parts_within, parts_of, part_tokens, line_tokens, token, ◌>>=◌}
use Rattle.config_rules.proofs.CutLaws.{chunk_no_space, chunk_is_not, mark_is}
use Rattle.config_rules.proofs.Parts.{parts_step}
use Rattle.cf_lexer.specs.declared.front.Front.{Front}
use Rattle.cf_lexer.specs.Front.{front, front_of, front_result, front_at, span}
use Rattle.cf_lexer.specs.Line.{GoesOn, span_tokens, with_line}
use Rattle.cf_lexer.proofs.FrontLemmas.{length_chunk}

front_len : (p : Part) → (front_of p).len ≡ length (spelling p)
front_len (Space c) = refl
front_len (Comment bytes) = omega arith
front_len (Quoted bytes) = omega (arith, length-append bytes (34 ∷ []))
front_len (Chunk bytes) = refl
front_len (Mark bytes) = refl

token_same : (k : TokenKind) (a b x y line : ℕ) → a ≡ x → b ≡ y → (token k a b line ∷ []) ≡ (token k x y line ∷ [])
token_same k a b x y line p q = rw (p, q) refl

front_tokens : (line at : ℕ) (p : Part) → span_tokens line at (front_of p).token ≡ part_tokens line at p
front_tokens line at (Space c) = refl
front_tokens line at (Comment bytes) = refl
front_tokens line at (Quoted bytes) = token_same _ _ _ _ _ line refl (omega arith)
front_tokens line at (Chunk bytes) = token_same _ _ _ _ _ line (omega arith) refl
front_tokens line at (Mark bytes) = token_same _ _ _ _ _ line (omega arith) refl

tail : (before : List Token) (line at : ℕ) (p : Part) (q : Result (List Part) ℕ) → with_line before line at (q >>= λ parts. Ok (p ∷ parts)) ≡ with_line (before ++ part_tokens line at p) line (at + length (spelling p)) q
tail before line at p (Ok ps) = ap Ok (sym (append_assoc before (part_tokens line at p) (line_tokens line (at + length (spelling p)) ps)))
tail before line at p (Err code) = refl

err_step : (before : List Token) (line at code : ℕ) (r : Result Part ℕ) (f : Part → Result (List Part) ℕ) → Err code ≡ front_result r → with_line before line at (r >>= f) ≡ Err code
err_step before line at code (Ok p) f e = absurd (cc)
err_step before line at code (Err k) f e = let same : code ≡ k = cc in ap Err (sym same)

ok_step : (before after : List Token) (line at : ℕ) (rest : List ℕ) (r : Result Part ℕ) (f : Front) → Ok f ≡ front_result r → after ≡ before ++ span_tokens line at f.token
    → with_line after line (at + f.len) (parts_of (drop f.len rest)) ≡ with_line before line at (r >>= λ part. parts_of (drop (length (spelling part)) rest) >>= λ parts. Ok (part ∷ parts))
ok_step before after line at rest (Err k) f e new = absurd (cc)
ok_step before after line at rest (Ok p) f e new =
    let same : f ≡ front_of p = cc in
    let len : f.len ≡ length (spelling p) = ap (λ (g : Front). g.len) same ∙ front_len p in
    let tokens : after ≡ before ++ part_tokens line at p = new ∙ ap (λ (g : Front). before ++ span_tokens line at g.token) same ∙ ap (λ ts. before ++ ts) (front_tokens line at p) in
    ap (λ n. with_line after line (at + n) (parts_of (drop n rest))) len
    ∙ ap (λ ts. with_line ts line (at + length (spelling p)) (parts_of (drop (length (spelling p)) rest))) tokens
    ∙ sym (tail before line at p (parts_of (drop (length (spelling p)) rest)))

-- no part begins the rest of a line
pub line_stops : (before : List Token) (line at code c : ℕ) (cs : List ℕ) → Err code ≡ front_at c cs → with_line before line at (parts_of (c ∷ cs)) ≡ Err code
line_stops before line at code c cs e =
    ap (with_line before line at) (parts_step c cs) ∙ err_step before line at code (first_part c cs) _ e

-- a part begins it, and its token was appended
pub line_goes_on : (before after : List Token) (line at c : ℕ) (cs : List ℕ) (f : Front) → Ok f ≡ front_at c cs → after ≡ before ++ span_tokens line at f.token
    → with_line after line (at + f.len) (parts_of (drop f.len (c ∷ cs))) ≡ with_line before line at (parts_of (c ∷ cs))
line_goes_on before after line at c cs f e new =
    ok_step before after line at (c ∷ cs) (first_part c cs) f e new ∙ sym (ap (with_line before line at) (parts_step c cs))

pub chunk_first : (c : ℕ) (cs : List ℕ) → is_chunk_byte c ≡ true → first_part c cs ≡ Ok (Chunk (c ∷ take_while is_chunk_byte cs))
chunk_first c cs h = rw (chunk_no_space c h, chunk_is_not c 35 refl h, chunk_is_not c 34 refl h, h) refl

mark_first : (c : ℕ) (cs : List ℕ) → is_mark_byte c ≡ true → first_part c cs ≡ Ok (Mark (c ∷ []))
mark_first c cs h = rw (mark_is is_space c refl h, mark_is (λ m. m == 35) c refl h, mark_is (λ m. m == 34) c refl h, mark_is is_chunk_byte c refl h, h) refl

blank_first : (c : ℕ) (cs : List ℕ) → is_space c ≡ true → first_part c cs ≡ Ok (Space c)
blank_first c cs h = rw h refl

-- a chunk begins it
pub chunk_goes_on : (before after : List Token) (line at c : ℕ) (cs : List ℕ) (n : ℕ) → is_chunk_byte c ≡ true → n ≡ prefix_len is_chunk_byte cs + 1
    → after ≡ before ++ token kind.Chunk at (at + n) line ∷ [] → GoesOn before line at (c ∷ cs) (Ok n) after
chunk_goes_on before after line at c cs n h len new =
    let e : Ok (front n (Some (span kind.Chunk 0 n))) ≡ front_at c cs =
    ap (λ m. Ok (front m (Some (span kind.Chunk 0 m)))) (len ∙ sym (length_chunk c cs)) ∙ sym (ap front_result (chunk_first c cs h)) in (
      omega arith,
      omega (arith, prefix_len-le-length is_chunk_byte cs),
      line_goes_on before after line at c cs (front n (Some (span kind.Chunk 0 n))) e (new ∙ ap (λ ts. before ++ ts) (token_same _ _ _ _ _ line (omega arith) refl)),
    )

-- a mark of one byte begins it
pub mark_goes_on : (before after : List Token) (line at c : ℕ) (cs : List ℕ) → is_mark_byte c ≡ true
    → after ≡ before ++ token kind.Mark at (at + 1) line ∷ [] → GoesOn before line at (c ∷ cs) (Ok 1) after
mark_goes_on before after line at c cs h new = (
  omega arith,
  omega arith,
  line_goes_on before after line at c cs (front 1 (Some (span kind.Mark 0 1))) (sym (ap front_result (mark_first c cs h)))
      (new ∙ ap (λ ts. before ++ ts) (token_same _ _ _ _ _ line (omega arith) refl)),
)

-- a blank begins it
pub blank_goes_on : (before : List Token) (line at c : ℕ) (cs : List ℕ) → is_space c ≡ true → GoesOn before line at (c ∷ cs) (Ok 1) before
blank_goes_on before line at c cs h = (
  omega arith,
  omega arith,
  line_goes_on before before line at c cs (front 1 None) (sym (ap front_result (blank_first c cs h))) (sym (append-nil before)),
)

-- nothing is left of it
pub line_ends : (before : List Token) (line at : ℕ) (rest : List ℕ) → length rest < 1 → with_line before line at (parts_of rest) ≡ Ok before
unfolding parts_within
line_ends before line at [] h = ap Ok (append-nil before)
line_ends before line at (c ∷ cs) h = absurd (omega arith)
