-- The candidates of a spot, sorted, are the rows that suit it, the best first.
use Rattle.std.proofs.Common.{◌≡◌, ℕ, List, map, refl, sym, subst}
use Rattle.std.specs.Global.{Global}
use Rattle.std.specs.Prelude.{IfOk, Result, Ok, Err, Vec}
use Rattle.std.specs.List.Sorted.{IsPermutation, IsSorted}
use Rattle.run_rules.specs.Suits.{AreBestFirst}
use Rattle.run_rules.proofs.BestFirst.{best_first_is, by_value}
use Rattle.match_search.specs.Index.{candidate}
use Rattle.match_search.specs.Sought.{AreCandidates}
use Rattle.match_search.specs.declared.index.Sought.{Sought}
use Rattle.match_search.specs.declared.index.Candidate.{Candidate}

abbrev value : Candidate → ℕ
value c = c.value.0

abbrev number : Candidate → ℕ
number c = c.row

pub best_first_ok : {E : Type 0} (s : Sought) (xs ys : List Candidate) (r : Result (Vec ℕ Global) E) → AreCandidates s xs
    → IsPermutation xs ys → IsSorted (by_value value number) ys → IfOk r (λ rows. rows.items ≡ map number ys)
    → IfOk r (λ rows. AreBestFirst s.tables.now s.machine.now s.place s.spot rows.items)
best_first_ok s xs ys (Ok rows) is moved sorted e =
    subst (AreBestFirst s.tables.now s.machine.now s.place s.spot) (sym e)
    (best_first_is value number s.tables.now s.machine.now s.place s.spot (candidate s.tables.now s.machine.now s.spot) is.rows xs ys (record { value = λ q. refl; row = λ q. refl }) is.all is.are moved sorted)
best_first_ok s xs ys (Err e) is moved sorted h = tt
