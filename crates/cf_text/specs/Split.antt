-- How a unit chunk falls into its base and its unit.
use Rattle.std.specs.Prelude.{◌≡◌, ℕ, ◌-◌, ◌<◌, ◌≤◌, Bool, ◌&&◌, ◌==◌, nat_le, if◌then◌else◌, List, length, take, drop, slice_index, ◌++◌, codes, IsTrue, ⊤}
use Rattle.std.specs.Str.Parse.{digits_value}
use Rattle.cf_text.specs.declared.unit.Split.{Split}
use Rattle.cf_text.specs.declared.unit.Split.TheVariants.{Not, Unit, Star, Any, TooGreat}
use Rattle.cf_text.specs.declared.unit.TheConstants.{MAX_UNIT}
use Rattle.cf_text.specs.Shapes.{is_name, is_decimal, base_len}

-- the unit that these digits spell behind a base
abbrev pub unit_behind : ℕ → List ℕ → Split
unit_behind cut digits = if nat_le (digits_value 10 digits) MAX_UNIT then Unit cut (digits_value 10 digits) else TooGreat

-- a name before this place and a decimal number from it on
abbrev pub fixed_of : ℕ → List ℕ → Split
fixed_of cut chunk = if is_name (take cut chunk) && is_decimal (drop cut chunk) then unit_behind cut (drop cut chunk) else Not

-- a name and this mark behind it
abbrev pub is_marked : ℕ → List ℕ → Bool
is_marked mark chunk = slice_index chunk (length chunk - 1) == mark && is_name (take (length chunk - 1) chunk)

-- what a chunk is as a unit chunk
abbrev pub split_of : List ℕ → Split
split_of chunk =
    if is_marked 42 chunk then Star (length chunk - 1)
    else (if is_marked 63 chunk then Any (length chunk - 1)
    else fixed_of (base_len chunk) chunk)

-- the parts of a unit chunk are a name and the spelling of its unit
abbrev pub Spells : List ℕ → Split → Type 0
Spells chunk (Unit cut unit) = (cut ≤ length chunk) × IsTrue (is_name (take cut chunk)) × IsTrue (is_decimal (drop cut chunk)) × (unit ≡ digits_value 10 (drop cut chunk)) × (unit ≤ MAX_UNIT)
Spells chunk (Star cut) = (chunk ≡ take cut chunk ++ codes "*") × IsTrue (is_name (take cut chunk))
Spells chunk (Any cut) = (chunk ≡ take cut chunk ++ codes "?") × IsTrue (is_name (take cut chunk))
Spells chunk TooGreat = (cut : ℕ) × IsTrue (is_name (take cut chunk)) × IsTrue (is_decimal (drop cut chunk)) × (MAX_UNIT < digits_value 10 (drop cut chunk))
Spells chunk Not = ⊤
