-- The match lines of each spot, and the match values that they give.
use Rattle.std.specs.Prelude.{◌≡◌, ◌<◌, ℕ, Bool, not, ◌&&◌, ◌==◌, List, [], ◌∷◌, ◌++◌, filter, find, length, map, reverse, Option, Some, None, is_some, Vec}
use Rattle.std.specs.Global.{Global}
use Rattle.std.specs.List.{slice_index_or}
use Rattle.std.specs.Option.{option_map_or}
use Rattle.cf_types.specs.declared.machine.Machine.{Machine}
use Rattle.cf_types.specs.declared.machine.MatchLine.{MatchLine}
use Rattle.run_rules.specs.Search.{match_value}
use Rattle.run_rules.specs.World.{is_number}

-- whether a match line is for all spots, or for this one
abbrev pub is_for : Option ℕ → MatchLine → Bool
is_for None line = not (is_some line.spot)
is_for (Some x) line = is_number line.spot x

-- the value of the last such line for the attachment, or the one that is given
abbrev pub last_value : Option ℕ → List MatchLine → ℕ → ℕ → ℕ
last_value spot lines attach given = option_map_or (λ line. line.value) (find (λ line. line.attach == attach && is_for spot line) (reverse lines)) given

-- these are the match values of attachments at the spot, in order of their numbers; those beyond are 0
abbrev pub AreValuesAt : Machine → ℕ → List ℕ → Type 0
AreValuesAt m x values = (a : ℕ) → slice_index_or values a 0 ≡ match_value m a x

-- these are the match values of attachments by the lines for all spots
abbrev pub AreEverywhere : Machine → List ℕ → Type 0
AreEverywhere m values = (a : ℕ) → slice_index_or values a 0 ≡ last_value None m.matches a 0

-- the lines in lists
abbrev pub lines_in : List (Vec MatchLine Global) → List (List MatchLine)
lines_in lists = map (λ list. list.items) lists

-- of each of n spots those of the lines that are for it, in their order
pub record AreOwnLines (n : ℕ) (lines : List MatchLine) (lists : List (List MatchLine)) : Type 0 where
  pub spots : length lists ≡ n
  pub each : (x : ℕ) → x < n → slice_index_or lists x [] ≡ filter (is_for (Some x)) lines

-- where the lists were those of some lines, they are now those of these and one line more
abbrev pub HaveLineMore : MatchLine → List (List MatchLine) → List (List MatchLine) → Type 0
HaveLineMore line old new = (n : ℕ) (lines : List MatchLine) → AreOwnLines n lines old → AreOwnLines n (lines ++ line ∷ []) new
