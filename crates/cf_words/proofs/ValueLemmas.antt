-- The number of a word, by how its chunk reads.
use Rattle.std.proofs.Common.{◌≡◌, Bool, true, false, not, cond, Option, Some, None, refl, ℤ, pos}
use Rattle.std.specs.Prelude.{option_and_then}
use Rattle.cf_types.specs.declared.stmt.Piece.{Piece}
use Rattle.cf_text.specs.declared.number.NumberRead.{NumberRead}
use Rattle.cf_text.specs.declared.number.NumberRead.TheVariants.{Not, OutOfRange, Value}
use Rattle.cf_text.specs.NumberRead.{read_of}
use Rattle.cf_text.specs.Shapes.{in_range, number}
use Rattle.config_rules.specs.Form.{given, is_chunk, value_of, fitted}

abbrev pub value_by : Bool → NumberRead → Option ℤ
value_by sized (Value v) = Some v
value_by sized OutOfRange = given (not sized) (pos 0)
value_by sized Not = None

by_range : (sized fits : Bool) (v : ℤ) → value_by sized (cond fits (Value v) OutOfRange) ≡ fitted sized fits v (pos 0)
by_range sized true v = refl
by_range sized false v = refl

value_by-read_of : (sized : Bool) (o : Option ℤ) → value_by sized (read_of o) ≡ option_and_then (λ v. fitted sized (in_range v) v (pos 0)) o
value_by-read_of sized None = refl
value_by-read_of sized (Some v) = by_range sized (in_range v) v

pub value_of-chunk : (sized : Bool) (p : Piece) (r : NumberRead) → true ≡ is_chunk p → r ≡ read_of (number p.text) → value_by sized r ≡ value_of sized p
value_of-chunk sized p r chunk e = rw (e, ← chunk) (value_by-read_of sized (number p.text))
