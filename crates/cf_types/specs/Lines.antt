-- Texts as lines.
use Rattle.std.specs.Prelude.{ℕ, ◌==◌, List, [], ◌∷◌, ◌++◌, flat_map}
use Rattle.std.specs.List.{slice_split}

-- the lines of a text, without their newlines; what stands behind the last newline is one more, and may be empty
abbrev pub lines_of : List ℕ → List (List ℕ)
lines_of text = slice_split (λ c. c == 10) text

-- a line with its newline
abbrev pub ended : List ℕ → List ℕ
ended line = line ++ 10 ∷ []

-- each line with its newline
abbrev pub text_of : List (List ℕ) → List ℕ
text_of lines = flat_map ended lines
