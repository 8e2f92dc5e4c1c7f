-- Numbers that are gathered into a list without repeats.
use Rattle.std.specs.Prelude.{ℕ, Bool, ◌==◌, List, [], ◌∷◌, ◌++◌, if◌then◌else◌}
use Rattle.std.specs.List.{list_any}

-- whether a number is in a list
abbrev pub is_in : ℕ → List ℕ → Bool
is_in x xs = list_any (λ y. y == x) xs

-- a number behind a list, unless it is there
abbrev pub with_new : List ℕ → ℕ → List ℕ
with_new xs x = if is_in x xs then xs else xs ++ x ∷ []

-- the same of several numbers, one after the other
abbrev pub with_all : List ℕ → List ℕ → List ℕ
with_all xs [] = xs
with_all xs (y ∷ ys) = with_all (with_new xs y) ys
