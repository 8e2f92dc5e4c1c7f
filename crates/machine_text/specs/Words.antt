-- The words of a line.
use Rattle.std.specs.Prelude.{◌≡◌, ◌<◌, ℕ, List, [], ◌∷◌, ◌++◌, filter, length, map, nat_lt}
use Rattle.std.specs.Borrow.{Bor}
use Rattle.std.specs.List.{slice_split}
use Rattle.cf_types.specs.Lines.{lines_of}
use Rattle.config_rules.specs.Cut.{is_space}
use Rattle.config_rules.specs.MachineText.{words_of}

-- the words between spaces and tabs
abbrev pub parted : List ℕ → List (List ℕ)
parted bytes = filter (λ w. nat_lt 0 (length w)) (slice_split is_space bytes)

-- the words behind references
abbrev pub seen : List (Bor (List ℕ)) → List (List ℕ)
seen words = map (λ w. w.now) words

-- a word, unless it is empty
abbrev pub some_word : List ℕ → List (List ℕ)
some_word part = filter (λ w. nat_lt 0 (length w)) (part ∷ [])

-- a text as its first line and the shorter text whose lines are the others
pub record IsFirstLine (text line rest : List ℕ) : Type 0 where
  pub lines : lines_of text ≡ line ∷ lines_of rest
  pub shorter : length rest < length text

-- a line as what stands before its first space or tab, and the shorter line behind that
pub record IsFirstPart (line part rest : List ℕ) : Type 0 where
  pub words : words_of line ≡ some_word part ++ words_of rest
  pub shorter : length rest < length line
