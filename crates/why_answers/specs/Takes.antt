-- What is said of a row that nothing keeps off.
use Rattle.std.specs.Prelude.{ℕ, Bool, true, false, List, codes}

-- at the end of a search row by row its turn has been
abbrev pub takes_text : Bool → List ℕ
takes_text false = codes "takes it"
takes_text true = codes "would take it, but its turn was over"
