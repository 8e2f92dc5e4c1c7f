-- What is looked for at a spot, and found among some rows.
use Rattle.std.specs.Prelude.{◌≡◌, ℕ, ℤ, Bool, true, if◌then◌else◌, List, [], ◌∷◌, filter, map, Option, Some, None}
use Rattle.cf_types.specs.declared.tables.Locator.{Locator}
use Rattle.cf_types.specs.Gather.{is_in}
use Rattle.match_search.specs.declared.index.Candidate.{Candidate}
use Rattle.match_search.specs.declared.index.FirstLocator.{FirstLocator}
use Rattle.match_search.specs.declared.index.Sought.{Sought}
use Rattle.run_rules.specs.Suits.{suits}
use Rattle.match_search.specs.Index.{candidate}

-- the row suits the spot
abbrev pub suits_at : Sought → ℕ → Bool
suits_at s r = suits s.tables.now s.machine.now s.place s.spot r

-- a row with its match value, if it suits the spot
abbrev pub candidate_at : Sought → ℕ → Option Candidate
candidate_at s r = if suits_at s r then Some (candidate s.tables.now s.machine.now s.spot r) else None

-- those of some rows that suit the spot, with their match values
abbrev pub candidates_in : Sought → List ℕ → List Candidate
candidates_in s rows = map (candidate s.tables.now s.machine.now s.spot) (filter (suits_at s) rows)

-- all rows that suit the spot are among these
abbrev pub HaveAll : Sought → List ℕ → Type 0
HaveAll s rows = (r : ℕ) → suits_at s r ≡ true → is_in r rows ≡ true

-- the candidates among rows that have all that suit the spot
pub record AreCandidates (s : Sought) (list : List Candidate) : Type 0 where
  pub rows : List ℕ
  pub all : HaveAll s rows
  pub are : list ≡ candidates_in s rows

-- the first locator with the first value that is found, where there are both
abbrev pub first_locator : List Locator → List ℤ → Option FirstLocator
first_locator (l ∷ _) (f ∷ _) = Some (record { default = l.default; found = f })
first_locator (_ ∷ _) [] = None
first_locator [] _ = None
