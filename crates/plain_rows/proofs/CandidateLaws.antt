-- The rows that suit each spot, the best first.
use Rattle.std.proofs.Common.{◌≡◌, ℕ, List, map, refl}
use Rattle.std.specs.List.Sorted.{IsPermutation, IsSorted}
use Rattle.run_rules.specs.Suits.{AreBestFirst}
use Rattle.run_rules.proofs.BestFirst.{best_first_is, by_value}
use Rattle.plain_rows.specs.Sought.{HaveAll, candidates_in}
use Rattle.plain_rows.specs.Suited.{candidate}
use Rattle.plain_rows.specs.declared.suited.Candidate.{Candidate}
use Rattle.plain_rows.specs.declared.suited.Sought.{Sought}

abbrev value : Candidate → ℕ
value c = c.value.0

abbrev number : Candidate → ℕ
number c = c.row

pub sorted_first : (s : Sought) (rows : List ℕ) (xs ys : List Candidate) → HaveAll s rows → xs ≡ candidates_in s rows
    → IsPermutation xs ys → IsSorted (by_value value number) ys → AreBestFirst s.tables.now s.machine.now s.place s.spot (map number ys)
sorted_first s rows xs ys all is moved sorted =
    best_first_is value number s.tables.now s.machine.now s.place s.spot (candidate s.tables.now s.machine.now s.spot) rows xs ys
    (record { value = λ q. refl; row = λ q. refl }) all is moved sorted
