-- Tokens in one text, with one more; and those of a part of a text.
use Rattle.std.proofs.Common.{◌≡◌, ℕ, ◌+◌, ◌-◌, ◌≤◌, ◌<◌, List, [], ◌∷◌, ◌++◌, length, get_or, map, take, drop, refl, ap, subst, sym, ◌∙◌, arith}
use Rattle.std.specs.Prelude.{All, slice_range}
use Rattle.std.proofs.lemmas.List.{drop_at, drop-drop, drop-take, map-append, take-append-le, take-take, take_all, take_more}
use Rattle.std.proofs.lemmas.List.Elements.{All-append, All-cons, All-head, All-map, All-nil, All-tail}
use Rattle.cf_types.specs.Pieces.{AreBetween, IsBetween, IsFrom, IsWithin, piece_at, span_from, token_in}
use Rattle.cf_types.specs.declared.pieces.PieceSpan.{PieceSpan}
use Rattle.cf_types.specs.declared.stmt.Piece.{Piece}
use Rattle.cf_types.specs.declared.stmt.Token.{Token}
use Rattle.cf_types.specs.declared.stmt.TokenKind.{TokenKind}

-- the span of a token behind a text
abbrev span_behind : List ℕ → TokenKind → List ℕ → PieceSpan
span_behind text kind bytes = record { kind = kind; start = length text; end = length (text ++ bytes) }

-- the same tokens stand in a text where more follows
same_pieces : (text more : List ℕ) (spans : List PieceSpan) → All (IsWithin (length text)) spans → map (piece_at (text ++ more)) spans ≡ map (piece_at text) spans
same_pieces text more [] within = refl
same_pieces text more (s ∷ spans) within =
    let here : take s.end (text ++ more) ≡ take s.end text = take-append-le s.end text more (All-head (IsWithin (length text)) s spans within).1 in
    ap (λ (t : List ℕ). record { kind = s.kind; text = drop s.start t } ∷ map (piece_at (text ++ more)) spans) here
    ∙ ap (λ (ps : List Piece). piece_at text s ∷ ps) (same_pieces text more spans (All-tail (IsWithin (length text)) s spans within))

-- the token behind a text
piece_behind : (text : List ℕ) (kind : TokenKind) (bytes : List ℕ) → piece_at (text ++ bytes) (span_behind text kind bytes) ≡ record { kind = kind; text = bytes }
piece_behind text kind bytes =
    ap (λ (t : List ℕ). record { kind = kind; text = drop (length text) t }) (take_all (length (text ++ bytes)) (text ++ bytes) (omega arith))
    ∙ ap (λ (t : List ℕ). record { kind = kind; text = t }) (drop_at text bytes (length text) refl)

pieces_push : (text bytes : List ℕ) (kind : TokenKind) (spans : List PieceSpan) → All (IsWithin (length text)) spans
    → map (piece_at (text ++ bytes)) (spans ++ span_behind text kind bytes ∷ []) ≡ map (piece_at text) spans ++ record { kind = kind; text = bytes } ∷ []
pieces_push text bytes kind spans within =
    map-append (piece_at (text ++ bytes)) spans (span_behind text kind bytes ∷ [])
    ∙ ap (λ (ps : List Piece). ps ++ piece_at (text ++ bytes) (span_behind text kind bytes) ∷ []) (same_pieces text bytes spans within)
    ∙ ap (λ (p : Piece). map (piece_at text) spans ++ p ∷ []) (piece_behind text kind bytes)

-- one more token behind the others
pub pieces_pushed : (old new bytes : List ℕ) (kind : TokenKind) (spans more : List PieceSpan) (s : PieceSpan) → All (IsWithin (length old)) spans
    → new ≡ old ++ bytes → s ≡ record { kind = kind; start = length old; end = length new } → more ≡ spans ++ s ∷ []
    → map (piece_at new) more ≡ map (piece_at old) spans ++ record { kind = kind; text = bytes } ∷ []
pieces_pushed old new bytes kind spans more s within grown is pushed =
    ap (map (piece_at new)) pushed
    ∙ ap (λ (x : PieceSpan). map (piece_at new) (spans ++ x ∷ [])) is
    ∙ ap (λ (t : List ℕ). map (piece_at t) (spans ++ record { kind = kind; start = length old; end = length t } ∷ [])) grown
    ∙ pieces_push old bytes kind spans within

-- ---- the tokens of a part of a text

-- a range within a part is one of the text
range_in_part : (text : List ℕ) (b n s e : ℕ) → b ≤ s → s ≤ e → e ≤ b + n → drop (s - b) (take (e - b) (take n (drop b text))) ≡ take (e - s) (drop s text)
range_in_part text b n s e from ordered within =
    let size : e - b ≡ (s - b) + (e - s) = omega arith in
    let place : b + (s - b) ≡ s = omega arith in
    ap (drop (s - b)) (take-take (e - b) n (drop b text) (omega arith))
    ∙ ap (λ k. drop (s - b) (take k (drop b text))) size
    ∙ drop-take (s - b) (e - s) (drop b text)
    ∙ ap (take (e - s)) (drop-drop (s - b) b text)
    ∙ ap (λ k. take (e - s) (drop k text)) place

token_in_part : (text : List ℕ) (b n : ℕ) (t : Token) → IsBetween b (b + n) t → piece_at (take n (drop b text)) (span_from b t) ≡ token_in text t
token_in_part text b n t between =
    ap (λ (bytes : List ℕ). record { kind = t.kind; text = bytes }) (range_in_part text b n t.start t.end between.0 between.1.0 between.1.1)

tokens_from : (text : List ℕ) (b n : ℕ) (tokens : List Token) → AreBetween b (b + n) tokens → map (piece_at (take n (drop b text))) (map (span_from b) tokens) ≡ map (token_in text) tokens
tokens_from text b n [] between = refl
tokens_from text b n (t ∷ tokens) between =
    ap (λ (p : Piece). p ∷ map (piece_at (take n (drop b text))) (map (span_from b) tokens)) (token_in_part text b n t (All-head (IsBetween b (b + n)) t tokens between))
    ∙ ap (λ (ps : List Piece). token_in text t ∷ ps) (tokens_from text b n tokens (All-tail (IsBetween b (b + n)) t tokens between))

-- the tokens in a part of a text are those in the text
pub tokens_in_part : (text part : List ℕ) (b : ℕ) (tokens : List Token) → AreBetween b (b + length part) tokens → part ≡ slice_range text b (b + length part) → map (piece_at part) (map (span_from b) tokens) ≡ map (token_in text) tokens
tokens_in_part text part b tokens between is =
    let size : (b + length part) - b ≡ length part = omega arith in
    ap (λ (t : List ℕ). map (piece_at t) (map (span_from b) tokens)) (is ∙ ap (λ k. take k (drop b text)) size)
    ∙ tokens_from text b (length part) tokens between

-- and stand within it
pub spans_in_part : (n b : ℕ) (tokens : List Token) → AreBetween b (b + n) tokens → All (IsWithin n) (map (span_from b) tokens)
spans_in_part n b tokens between = All-map (IsWithin n) (span_from b) tokens (λ k d p. within (get_or tokens k d) (between k d p))
  where
    within : (t : Token) → IsBetween b (b + n) t → IsWithin n (span_from b t)
    within t h = let (from, (ordered, end)) = h in (omega arith, omega arith)

-- ---- the tokens of a text at known places

-- they stand between the ends of the part
between_there : (n b : ℕ) (tokens : List Token) → All (IsWithin n) (map (span_from b) tokens) → All (IsFrom b) tokens → AreBetween b (b + n) tokens
between_there n b [] within from = All-nil (IsBetween b (b + n))
between_there n b (t ∷ tokens) within from =
    let here = All-head (IsWithin n) (span_from b t) (map (span_from b) tokens) within in
    let begun = All-head (IsFrom b) t tokens from in
    All-cons (IsBetween b (b + n)) t tokens (between t here begun)
    (between_there n b tokens (All-tail (IsWithin n) (span_from b t) (map (span_from b) tokens) within) (All-tail (IsFrom b) t tokens from))
  where
    between : (t : Token) → IsWithin n (span_from b t) → IsFrom b t → IsBetween b (b + n) t
    between t (ordered, end) (start, stop) = (start, (omega arith, omega arith))

-- where a text has the same part, the spans are those of its tokens
pub tokens_there : (text own : List ℕ) (b : ℕ) (spans : List PieceSpan) (tokens : List Token) → All (IsWithin (length own)) spans
    → own ≡ slice_range text b (b + length own) → All (IsFrom b) tokens → spans ≡ map (span_from b) tokens → map (piece_at own) spans ≡ map (token_in text) tokens
tokens_there text own b spans tokens within part from is =
    ap (map (piece_at own)) is
    ∙ tokens_in_part text own b tokens (between_there (length own) b tokens (subst (All (IsWithin (length own))) is within) from) part

-- one more token that stands there
pub from_more : (b i : ℕ) (tokens : List Token) (t : Token) → i < length tokens → All (IsFrom b) (take i tokens) → IsFrom b (get_or tokens i t) → All (IsFrom b) (take (i + 1) tokens)
from_more b i tokens t within so_far here =
    subst (All (IsFrom b)) (sym (take_more tokens i t within))
    (All-append (IsFrom b) (take i tokens) (get_or tokens i t ∷ []) so_far (All-cons (IsFrom b) (get_or tokens i t) [] here (All-nil (IsFrom b))))

pub spans_more : (b i : ℕ) (spans : List PieceSpan) (tokens : List Token) (s : PieceSpan) (t : Token) → i < length spans → i < length tokens
    → take i spans ≡ map (span_from b) (take i tokens) → get_or spans i s ≡ span_from b (get_or tokens i t) → take (i + 1) spans ≡ map (span_from b) (take (i + 1) tokens)
spans_more b i spans tokens s t within inside so_far here =
    take_more spans i s within
    ∙ ap (λ (xs : List PieceSpan). xs ++ get_or spans i s ∷ []) so_far
    ∙ ap (λ (x : PieceSpan). map (span_from b) (take i tokens) ++ x ∷ []) here
    ∙ sym (map-append (span_from b) (take i tokens) (get_or tokens i t ∷ []))
    ∙ ap (map (span_from b)) (sym (take_more tokens i t inside))
