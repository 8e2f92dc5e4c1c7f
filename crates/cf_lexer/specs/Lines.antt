-- The lines of a text from a place on.
use Rattle.std.specs.Prelude.{ℕ, ◌+◌, ◌-◌, Bool, false, not, ◌&&◌, ◌==◌, List, [], ◌∷◌, length, take, drop, Option, Some, None}
use Rattle.cf_types.specs.Lines.{lines_of}
use Rattle.config_rules.specs.Cut.{is_space}

-- a line begins with something else than a space, a tab or a comment
abbrev pub begins : List ℕ → Bool
begins [] = false
begins (c ∷ cs) = not (is_space c) && not (c == 35)

-- the first line of a text, and the lines behind it
abbrev pub head_line : List (List ℕ) → List ℕ
head_line [] = []
head_line (line ∷ lines) = line

abbrev pub lines_behind : List (List ℕ) → List (List ℕ)
lines_behind [] = []
lines_behind (line ∷ lines) = lines

abbrev pub first_of : List ℕ → List ℕ
first_of text = head_line (lines_of text)

abbrev pub rest_of : List ℕ → List (List ℕ)
rest_of text = lines_behind (lines_of text)

-- the lines of a text from this place on, where one begins there
abbrev pub lines_from : List ℕ → Option ℕ → List (List ℕ)
lines_from text None = []
lines_from text (Some place) = lines_of (drop place text)

-- the bytes of a text behind the one at a place
abbrev pub bytes_behind : List ℕ → ℕ → List ℕ
bytes_behind text place = take (length text - (place + 1)) (drop (place + 1) text)
