-- What the loop over the lines of a text keeps.
use Rattle.std.specs.Prelude.{ℕ, ◌+◌, if◌then◌else◌, List, [], ◌∷◌, ◌++◌, length, Result, Ok}
use Rattle.cf_types.specs.declared.stmt.Token.{Token}
use Rattle.config_rules.specs.Cut.{Part, lines_tokens, is_over, stop_behind, all_parts, ◌>>=◌}

-- the tokens so far, with a stop where no statement goes on in these lines
abbrev pub with_stop : List Token → List (List Part) → List Token
with_stop before lines = before ++ (if is_over lines then stop_behind before else [])

-- the tokens so far with those of the lines that are left
abbrev pub finish : List Token → ℕ → ℕ → List (List ℕ) → Result (List Token) (ℕ × ℕ)
finish before n at lines = all_parts n lines >>= λ parts. Ok (with_stop before parts ++ lines_tokens n at parts)

-- the bytes of lines with their newlines
abbrev pub total : List (List ℕ) → ℕ
total [] = 0
total (line ∷ lines) = length line + 1 + total lines
