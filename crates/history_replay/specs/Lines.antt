-- A text as its first line and the rest.
use Rattle.std.specs.Prelude.{◌≡◌, ◌<◌, ℕ, List, ◌∷◌, length}
use Rattle.run_rules.specs.Reread.{history_lines}

-- the first line, and the shorter text whose lines are the others
pub record IsCut (text line rest : List ℕ) : Type 0 where
  pub lines : history_lines text ≡ line ∷ history_lines rest
  pub shorter : length rest < length text
