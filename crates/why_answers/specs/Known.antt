-- What a word names in a configuration alone: the rows of its tables, and the instances that are not in them.
use Rattle.std.specs.Prelude.{ℕ, Bool, ◌||◌, nat_lt, if◌then◌else◌, List, ◌++◌, length, Option, Some, None}
use Rattle.cf_types.specs.declared.tables.Tables.{Tables}
use Rattle.gone_rows.specs.Gone.{Stated}
use Rattle.gone_rows.specs.GoneText.{gone_lines}
use Rattle.why_answers.specs.Rows.{is_driver, rows_lines, rows_named}

-- the lines say more than the count of no rows, or the word is a driver
abbrev pub says : Tables → List ℕ → List (List ℕ) → Bool
says t word lines = nat_lt 1 (length lines) || is_driver t word

-- these lines, if they say something
abbrev pub said : Tables → List ℕ → List (List ℕ) → Option (List (List ℕ))
said t word lines = if says t word lines then Some lines else None

-- the rows of the word, and behind them its instances that are not in the tables; none if it names nothing
abbrev pub known_answer : Tables → Stated → List ℕ → Option (List (List ℕ))
known_answer t stated word = said t word (rows_lines t word (rows_named t word) ++ gone_lines stated word)
