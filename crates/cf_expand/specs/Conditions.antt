-- The innermost open condition.
use Rattle.std.specs.Prelude.{ℕ, Bool, false, List, [], ◌∷◌, Option, Some, None}
use Rattle.cf_expand.specs.Levels.{Level}

-- whether its branch that is open now is that of `else`
abbrev pub is_behind_else : List Level → Bool
is_behind_else [] = false
is_behind_else (l ∷ levels) = l.last

-- the line of its opening
abbrev pub innermost : List Level → Option ℕ
innermost [] = None
innermost (l ∷ levels) = Some l.line
