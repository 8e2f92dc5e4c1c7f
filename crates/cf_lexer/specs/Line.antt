-- What becomes of a line, and of a text.
use Rattle.std.specs.Prelude.{◌≡◌, ℕ, ◌+◌, ◌≤◌, length, drop, true, false, ◌==◌, List, [], ◌∷◌, ◌++◌, Option, Some, None, Result, Ok, Err}
use Rattle.cf_types.specs.declared.stmt.Token.{Token}
use Rattle.config_rules.specs.Cut.{Part, token, line_tokens, parts_of, CutFault, ◌>>=◌}
use Rattle.cf_lexer.specs.declared.front.Span.{Span}
use Rattle.cf_lexer.specs.declared.line.LexStop.{LexStop}
use Rattle.cf_lexer.specs.declared.line.LexStop.TheVariants.{Fault, Memory}
use Rattle.cf_lexer.specs.Lines.{first_of}

-- the token of a part that begins at this place
abbrev pub span_tokens : ℕ → ℕ → Option Span → List Token
span_tokens line at None = []
span_tokens line at (Some s) = token s.kind (at + s.start) (at + s.end) line ∷ []

-- the tokens so far with those of the parts of a line behind them, or the code of the line
abbrev pub with_line : List Token → ℕ → ℕ → Result (List Part) ℕ → Result (List Token) ℕ
with_line before line at parts = parts >>= λ ps. Ok (before ++ line_tokens line at ps)

-- what a call left is what it should be, unless memory ran out
abbrev pub Leaves : {A : Type 0} → Result (List Token) ℕ → ℕ → Result A LexStop → List Token → Type 0
Leaves whole line (Ok done) tokens = whole ≡ Ok tokens
Leaves whole line (Err (Fault l code)) tokens = (l ≡ line) × (whole ≡ Err code)
Leaves whole line (Err Memory) tokens = Unit {0}

-- a part at the front of what is left of a line was taken, or no part begins it, or memory ran out
abbrev pub GoesOn : List Token → ℕ → ℕ → List ℕ → Result ℕ LexStop → List Token → Type 0
GoesOn before line at rest (Ok len) after =
    (1 ≤ len) × (len ≤ length rest) × (with_line after line (at + len) (parts_of (drop len rest)) ≡ with_line before line at (parts_of rest))
GoesOn before line at rest (Err (Fault l code)) after = (l ≡ line) × (with_line before line at (parts_of rest) ≡ Err code)
GoesOn before line at rest (Err Memory) after = Unit {0}

-- where a part leads to by its first byte and the bytes of the text behind it: the place behind it; a newline is none
abbrev pub PartGoes : List Token → ℕ → ℕ → ℕ → List ℕ → Result (Option ℕ) LexStop → List Token → Type 0
PartGoes before line at first more (Ok None) after = ((first == 10) ≡ true) × (after ≡ before)
PartGoes before line at first more (Ok (Some next)) after =
    (len : ℕ) × (next ≡ at + len) × GoesOn before line at (first ∷ first_of more) (Ok len) after × ((first == 10) ≡ false)
PartGoes before line at first more (Err stop) after = GoesOn before line at (first ∷ first_of more) (Err stop) after × ((first == 10) ≡ false)

-- what a function answers is what the text gives, unless memory ran out
abbrev pub Shows : Result (List Token) (ℕ × ℕ) → Result (List Token) LexStop → Type 0
Shows whole (Ok tokens) = whole ≡ Ok tokens
Shows whole (Err (Fault line code)) = whole ≡ Err (line, code)
Shows whole (Err Memory) = Unit {0}

-- a fault is a fault of the text
abbrev pub IsFaultOf : List ℕ → LexStop → Type 0
IsFaultOf text (Fault line code) = CutFault text line code
IsFaultOf text Memory = Unit {0}
