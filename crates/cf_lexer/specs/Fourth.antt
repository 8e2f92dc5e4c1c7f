-- The fourth bytes of condition words.
use Rattle.std.specs.Prelude.{ℕ, ◌==◌, ◌||◌, Bool}

-- a condition word has this byte at its fourth place
abbrev pub is_fourth : ℕ → Bool
is_fourth byte = byte == 100 || byte == 101 || byte == 102 || byte == 105
