-- A word as its kind and bytes.
use Rattle.std.specs.Prelude.{ℕ, ◌+◌, Bool, List, [], Option, Some, None, length, map, nat_le, if◌then◌else◌}
use Rattle.std.specs.Borrow.{Bor}
use Rattle.std.specs.Str.Parse.{digits_value}
use Rattle.cf_types.specs.declared.stmt.Piece.{Piece}
use Rattle.cf_text.specs.Shapes.{is_decimal}
use Rattle.config_rules.specs.Form.{parted, fitted}
use Rattle.cf_words.specs.declared.word.Word.{Word}

abbrev pub piece_of : Word → Piece
piece_of w = record { kind = w.kind; text = w.text.now }

-- the number that decimal digits spell
abbrev pub unit_number : Bool → List ℕ → Option ℕ
unit_number sized digits = if is_decimal digits then fitted sized (nat_le (digits_value 10 digits) 65535) (digits_value 10 digits) 0 else None

-- the parts between commas of the words that are left, where some are
abbrev pub parts_left : Option (Bor (List Word)) → List (List Piece)
parts_left None = []
parts_left (Some words) = parted (map piece_of words.now)

-- more than how many words are left, 0 where no part is
abbrev pub left_len : Option (Bor (List Word)) → ℕ
left_len None = 0
left_len (Some words) = length words.now + 1
