-- Names in order, each with its number.
use Rattle.std.specs.Prelude.{◌≡◌, ◌≤◌, ℕ, Bool, true, false, if◌then◌else◌, List, length, None, Option, Some, option_map, find, bytes_eq, position}
use Rattle.std.specs.Option.{option_or}
use Rattle.std.specs.Cmp.Lexicographic.{slice_cmp}
use Rattle.std.specs.Ordering.{is_lt, nat_cmp}
use Rattle.std.specs.List.Sorted.{IsSortedBy, IsPartitionPoint}
use Rattle.machine_model.specs.declared.numbers.Numbered.{Numbered}

-- the first of two names comes before the second
abbrev pub comes_before : List ℕ → List ℕ → Bool
comes_before a b = is_lt (slice_cmp nat_cmp a b)

-- no name comes before one that stands before it
abbrev pub AreInOrder : List Numbered → Type 0
AreInOrder numbers = IsSortedBy (λ x y. comes_before x.name.now y.name.now) numbers

-- the names before this place come before the name, and no other one does
abbrev pub IsPlaceOf : List ℕ → List Numbered → ℕ → Type 0
IsPlaceOf name numbers place = (place ≤ length numbers) × IsPartitionPoint (λ x. comes_before x.name.now name ≡ true) (λ x. comes_before x.name.now name ≡ false) numbers place

-- the number of the first entry of this name
abbrev pub number_in : List Numbered → List ℕ → Option ℕ
number_in numbers name = option_map (λ x. x.number) (find (λ x. bytes_eq x.name.now name) numbers)

-- for each of these names there is the number of the first that is the same, and none for another
abbrev pub HaveNumbers : List Numbered → List (List ℕ) → Type 0
HaveNumbers numbers names = (q : List ℕ) → number_in numbers q ≡ position (λ n. bytes_eq n q) names

-- and they stand in order
pub record AreNumbers (numbers : List Numbered) (names : List (List ℕ)) : Type 0 where
  pub order : AreInOrder numbers
  pub each : HaveNumbers numbers names

-- one more entry: it answers for its name where no other one does
abbrev pub IsWith : List ℕ → ℕ → List Numbered → List Numbered → Type 0
IsWith name number old new = (q : List ℕ) → number_in new q ≡ option_or (number_in old q) (if bytes_eq name q then Some number else None)
