-- How the lines of a command begin.
use Rattle.std.specs.Prelude.{ℕ, List, ◌++◌, codes, decimal}

-- who gave it, and its number
abbrev pub head_text : ℕ → ℕ → List ℕ
head_text k n = decimal k ++ codes "." ++ decimal n ++ codes " "
