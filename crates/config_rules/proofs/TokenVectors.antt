-- Small texts and single chunks, and how they are cut and read.
use Rattle.std.proofs.Common.{◌≡◌, true, false, Some, None, Ok, Err, [], ◌∷◌, ◌++◌, refl, codes}
use Rattle.std.specs.Prelude.{pos, negsuc}
use Rattle.cf_types.specs.declared.stmt.TokenKind.TheVariants as kind
use Rattle.cf_text.specs.Shapes.{is_name, is_written, number, base_and_unit, base_before}
use Rattle.config_rules.specs.Cut.{cut_of, parts_within, token}
use Rattle.config_rules.proofs.VectorWords.{text, many}

-- a string is without its quotes, and a comment is no token
small_line : cut_of (codes "a \"b\" # c") ≡ Ok (token kind.Chunk 0 1 1 ∷ token kind.Text 3 4 1 ∷ token kind.Stop 4 4 1 ∷ [])
unfolding parts_within
small_line = refl

-- a string ends on its line
open_string : (cut_of (text (codes "ident \"abc" ∷ [])) ≡ Err (1, 4))
    × (cut_of (text (codes "a" ∷ codes "ident \"b" ∷ codes "c\"" ∷ [])) ≡ Err (2, 4))
    × (cut_of (codes "ident \"abc") ≡ Err (1, 4))
unfolding parts_within
open_string = (refl, refl, refl)

-- no other byte stands outside comments, and no control byte but a tab in a string
byte_not_allowed : (cut_of (1 ∷ []) ≡ Err (1, 3))
    × (cut_of (codes "a ~") ≡ Err (1, 3))
    × (cut_of (34 ∷ 127 ∷ 34 ∷ []) ≡ Err (1, 3))
unfolding parts_within
byte_not_allowed = (refl, refl, refl)

-- any byte may stand in a comment
byte_in_comment : cut_of (35 ∷ 200 ∷ []) ≡ Ok []
unfolding parts_within
byte_in_comment = refl

-- of an open string and a byte in it the byte comes first
first_faulty_byte : cut_of (codes "\"ab" ++ 1 ∷ []) ≡ Err (1, 3)
unfolding parts_within
first_faulty_byte = refl

-- a backslash in a string is a byte as any other
no_escapes : cut_of (codes "\"a\\\" b") ≡ Ok (token kind.Text 1 3 1 ∷ token kind.Chunk 5 6 1 ∷ token kind.Stop 6 6 1 ∷ [])
unfolding parts_within
no_escapes = refl

-- a `+` is a mark with `=` alone
plus_and_equals : (cut_of (codes "a + b") ≡ Err (1, 3))
    × (cut_of (codes "a +") ≡ Err (1, 3))
    × (cut_of (codes "a+=b") ≡ Ok (token kind.Chunk 0 1 1 ∷ token kind.Mark 1 3 1 ∷ token kind.Chunk 3 4 1 ∷ token kind.Stop 4 4 1 ∷ []))
unfolding parts_within
plus_and_equals = (refl, refl, refl)

-- strings and chunks need no space between them, and a comment ends a chunk
side_by_side : (cut_of (codes "\"a\"b\"c\"") ≡ Ok (token kind.Text 1 2 1 ∷ token kind.Chunk 3 4 1 ∷ token kind.Text 5 6 1 ∷ token kind.Stop 6 6 1 ∷ []))
    × (cut_of (codes "ab#c") ≡ Ok (token kind.Chunk 0 2 1 ∷ token kind.Stop 2 2 1 ∷ []))
unfolding parts_within
side_by_side = (refl, refl)

-- a line that begins with a space or tab continues a statement, also over blank lines and comments
continued_line : (cut_of (text (codes "a" ∷ codes " # c" ∷ codes "" ∷ codes "\tb" ∷ [])) ≡ Ok (token kind.Chunk 0 1 1 ∷ token kind.Chunk 9 10 4 ∷ token kind.Stop 10 10 4 ∷ []))
    × (cut_of (text (codes "a" ∷ codes "#c" ∷ codes " b" ∷ [])) ≡ Ok (token kind.Chunk 0 1 1 ∷ token kind.Chunk 6 7 3 ∷ token kind.Stop 7 7 3 ∷ []))
unfolding parts_within
continued_line = (refl, refl)

-- the first line begins a statement, whatever it begins with
first_line : cut_of (codes " a") ≡ Ok (token kind.Chunk 1 2 1 ∷ token kind.Stop 2 2 1 ∷ [])
unfolding parts_within
first_line = refl

-- any other line begins one
next_statement : cut_of (text (codes "a" ∷ codes "b" ∷ [])) ≡ Ok (token kind.Chunk 0 1 1 ∷ token kind.Stop 1 1 1 ∷ token kind.Chunk 2 3 2 ∷ token kind.Stop 3 3 2 ∷ [])
unfolding parts_within
next_statement = refl

-- a name has any length, and one that may be written at most 63 bytes
long_name : (is_name (many 64) ≡ true)
    × (is_written (many 63) ≡ true)
    × (is_written (many 64) ≡ false)
long_name = (refl, refl, refl)

-- numbers may be zero with a sign or with more zeros
odd_numbers : (number (codes "-0") ≡ Some (pos 0))
    × (number (codes "00") ≡ Some (pos 0))
    × (number (codes "-017") ≡ Some (negsuc 14))
    × (number (codes "0X1f") ≡ Some (pos 31))
odd_numbers = (refl, refl, refl, refl)

-- these are none
no_numbers : (number (codes "08") ≡ None)
    × (number (codes "0x") ≡ None)
    × (number (codes "-") ≡ None)
    × (number (codes "--1") ≡ None)
    × (number (codes "1e3") ≡ None)
    × (number [] ≡ None)
no_numbers = (refl, refl, refl, refl, refl, refl)

-- a unit has no leading zero, whatever its size, and a base with a mark may end with a digit
unit_chunks : (base_and_unit (codes "com0") ≡ Some (codes "com", 0))
    × (base_and_unit (codes "com00") ≡ None)
    × (base_and_unit (codes "com099999") ≡ None)
    × (base_and_unit (codes "com") ≡ None)
    × (base_before 42 (codes "com0*") ≡ Some (codes "com0"))
unit_chunks = (refl, refl, refl, refl, refl)
