-- The lines of a text that begins with a line of its own.
use Rattle.std.proofs.Common.{◌≡◌, ℕ, ◌==◌, Bool, true, false, not, List, [], ◌∷◌, ◌++◌, refl, ap, ◌∙◌, append_assoc}
use Rattle.std.proofs.lemmas.Bool.{and_parts}
use Rattle.std.specs.List.{onto_first}
use Rattle.cf_types.specs.Lines.{ended, lines_of, text_of}
use Rattle.run_rules.specs.Reread.{history_lines, without_empty_last}
use Rattle.replay_laws.specs.OneLine.{IsOneLine, is_one_line}

-- a text has a piece
pub record HasPiece (text : List ℕ) : Type 0 where
  pub first : List ℕ
  pub others : List (List ℕ)
  pub are : lines_of text ≡ first ∷ others

pub has_piece : (text : List ℕ) → HasPiece text
has_piece [] = record { first = []; others = []; are = refl }
has_piece (b ∷ bs) = by (b == 10) refl (has_piece bs)
  where
    by : (c : Bool) → (b == 10) ≡ c → HasPiece bs → HasPiece (b ∷ bs)
    by true e h = record { first = []; others = lines_of bs; are = rw e refl }
    by false e h = record { first = b ∷ h.first; others = h.others; are = rw e (ap (onto_first b) h.are) }

-- a piece before others counts
pub counts : (piece : List ℕ) (text : List ℕ) → without_empty_last (piece ∷ lines_of text) ≡ piece ∷ without_empty_last (lines_of text)
counts piece text = let h = has_piece text in rw h.are (by piece h.first h.others)
  where
    by : (piece first : List ℕ) (others : List (List ℕ)) → without_empty_last (piece ∷ first ∷ others) ≡ piece ∷ without_empty_last (first ∷ others)
    by [] first others = refl
    by (c ∷ cs) first others = refl

not_true : (b : Bool) → not b ≡ true → b ≡ false
not_true true h = absurd cc
not_true false h = refl

pieces_behind : (line rest : List ℕ) → IsOneLine line → lines_of (line ++ 10 ∷ rest) ≡ line ∷ lines_of rest
pieces_behind [] rest h = refl
pieces_behind (b ∷ bs) rest h =
    let parts = and_parts (not (b == 10)) (is_one_line bs) h in
    rw (not_true (b == 10) parts.0) (ap (onto_first b) (pieces_behind bs rest parts.1))

-- a line with its newline, and what is behind it
pub lines_behind : (line rest : List ℕ) → IsOneLine line → history_lines (ended line ++ rest) ≡ line ∷ history_lines rest
lines_behind line rest h =
    ap history_lines (append_assoc line (10 ∷ []) rest) ∙ ap without_empty_last (pieces_behind line rest h) ∙ counts line rest

pub first_of : (line : List ℕ) (lines : List (List ℕ)) (rest : List ℕ) → IsOneLine line → history_lines (text_of (line ∷ lines) ++ rest) ≡ line ∷ history_lines (text_of lines ++ rest)
first_of line lines rest h = ap history_lines (append_assoc (ended line) (text_of lines) rest) ∙ lines_behind line (text_of lines ++ rest) h
