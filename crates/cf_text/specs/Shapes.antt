-- The shapes of the chunks of a configuration file: names, numbers and unit chunks. They are this project's profile
-- after config(5).
use Rattle.std.specs.Prelude.{ℕ, ◌-◌, Bool, false, not, ◌&&◌, ◌||◌, ◌==◌, nat_lt, nat_le, if◌then◌else◌, List, [], ◌∷◌, length, take, drop, slice_index, bytes_eq, codes, Option, Some, None, option_map, ℤ, pos, neg_ℤ, int_le}
use Rattle.std.specs.Char.{is_ascii_alphabetic, is_ascii_alphanumeric, is_ascii_digit, is_digit}
use Rattle.std.specs.List.{list_all, suffix_len}
use Rattle.std.specs.Str.Parse.{digits_value}

-- a space or a tab
abbrev pub is_space : ℕ → Bool
is_space c = c == 32 || c == 9

-- ---- names

-- a letter or `_`
abbrev pub begins_name : ℕ → Bool
begins_name c = is_ascii_alphabetic c || c == 95

-- a letter, a digit, `_` or `-`
abbrev pub continues_name : ℕ → Bool
continues_name c = (is_ascii_alphanumeric c || c == 95) || c == 45

-- a letter or `_`, followed by letters, digits, `_` and `-`
abbrev pub is_name : List ℕ → Bool
is_name [] = false
is_name (c ∷ cs) = begins_name c && list_all continues_name cs

-- a name that may be written: of at most 63 bytes
abbrev pub is_written : List ℕ → Bool
is_written name = nat_le (length name) 63 && is_name name

-- the last byte is a digit
abbrev pub ends_with_digit : List ℕ → Bool
ends_with_digit name = is_ascii_digit (slice_index name (length name - 1))

-- ---- numbers

-- one or more digits of this radix
abbrev pub are_digits : ℕ → List ℕ → Bool
are_digits radix cs = nat_lt 0 (length cs) && list_all (λ c. is_digit c radix) cs

-- `0`, or decimal digits without a leading zero
abbrev pub is_decimal : List ℕ → Bool
is_decimal cs = are_digits 10 cs && (not (slice_index cs 0 == 48) || length cs == 1)

-- `0` and octal digits
abbrev pub is_octal : List ℕ → Bool
is_octal cs = slice_index cs 0 == 48 && are_digits 8 (drop 1 cs)

-- `0x` or `0X` and hexadecimal digits
abbrev pub is_hexadecimal : List ℕ → Bool
is_hexadecimal cs = (bytes_eq (take 2 cs) (codes "0x") || bytes_eq (take 2 cs) (codes "0X")) && are_digits 16 (drop 2 cs)

-- the number that a chunk without a sign spells
abbrev pub unsigned : List ℕ → Option ℕ
unsigned cs =
    if is_decimal cs then Some (digits_value 10 cs)
    else (if is_octal cs then Some (digits_value 8 (drop 1 cs))
    else (if is_hexadecimal cs then Some (digits_value 16 (drop 2 cs))
    else None))

-- the number that a chunk spells, of any size
abbrev pub number : List ℕ → Option ℤ
number cs = if slice_index cs 0 == 45 then option_map (λ n. neg_ℤ (pos n)) (unsigned (drop 1 cs)) else option_map pos (unsigned cs)

-- from -2147483648 to 4294967295
abbrev pub in_range : ℤ → Bool
in_range v = int_le (neg_ℤ (pos 2147483648)) v && int_le v (pos 4294967295)

-- ---- unit chunks

-- how much stands before the digits at the end
abbrev pub base_len : List ℕ → ℕ
base_len chunk = length chunk - suffix_len is_ascii_digit chunk

-- a name that doesn't end with a digit, and the number behind it
abbrev pub base_and_unit : List ℕ → Option (List ℕ × ℕ)
base_and_unit chunk =
    if is_written (take (base_len chunk) chunk) && is_decimal (drop (base_len chunk) chunk)
    then Some (take (base_len chunk) chunk, digits_value 10 (drop (base_len chunk) chunk)) else None

-- a name before this mark, which ends the chunk
abbrev pub base_before : ℕ → List ℕ → Option (List ℕ)
base_before mark chunk =
    if slice_index chunk (length chunk - 1) == mark && is_written (take (length chunk - 1) chunk)
    then Some (take (length chunk - 1) chunk) else None
