-- Tokens in one text.
use Rattle.std.specs.Prelude.{ℕ, ◌-◌, ◌≤◌, All, List, take, drop, slice_range}
use Rattle.cf_types.specs.declared.pieces.PieceSpan.{PieceSpan}
use Rattle.cf_types.specs.declared.stmt.Piece.{Piece}
use Rattle.cf_types.specs.declared.stmt.Token.{Token}

-- a token stands within a text of this length
abbrev pub IsWithin : ℕ → PieceSpan → Type 0
IsWithin n s = (s.start ≤ s.end) × (s.end ≤ n)

-- the token that stands there
abbrev pub piece_at : List ℕ → PieceSpan → Piece
piece_at text s = record { kind = s.kind; text = drop s.start (take s.end text) }

-- tokens of a text of this length
abbrev pub AreIn : ℕ → List Token → Type 0
AreIn n tokens = All (λ t. (t.start ≤ t.end) × (t.end ≤ n)) tokens

-- a token stands from there on
abbrev pub IsFrom : ℕ → Token → Type 0
IsFrom start t = (start ≤ t.start) × (start ≤ t.end)

-- a token stands between these places
abbrev pub IsBetween : ℕ → ℕ → Token → Type 0
IsBetween start end t = (start ≤ t.start) × ((t.start ≤ t.end) × (t.end ≤ end))

abbrev pub AreBetween : ℕ → ℕ → List Token → Type 0
AreBetween start end tokens = All (IsBetween start end) tokens

-- a token of a text with its bytes
abbrev pub token_in : List ℕ → Token → Piece
token_in text t = record { kind = t.kind; text = slice_range text t.start t.end }

-- where it stands in the part of the text that begins there
abbrev pub span_from : ℕ → Token → PieceSpan
span_from start t = record { kind = t.kind; start = t.start - start; end = t.end - start }
