-- Lists by a number.
use Rattle.std.specs.Prelude.{ℕ, List, [], map, Vec}
use Rattle.std.specs.Global.{Global}
use Rattle.std.specs.List.{slice_index_or}

abbrev pub lists_of : List (Vec ℕ Global) → List (List ℕ)
lists_of lists = map (λ list. list.items) lists

-- the list of a number, empty where there is none
abbrev pub list_at : List (Vec ℕ Global) → ℕ → List ℕ
list_at lists k = slice_index_or (lists_of lists) k []
