-- How a chunk reads as a number.
use Rattle.std.specs.Prelude.{if◌then◌else◌, Option, Some, None, ℤ}
use Rattle.cf_text.specs.declared.number.NumberRead.{NumberRead}
use Rattle.cf_text.specs.declared.number.NumberRead.TheVariants.{Not, OutOfRange, Value}
use Rattle.cf_text.specs.Shapes.{in_range}

-- what a chunk is as a number that may be written, where it spells this number, or none
abbrev pub read_of : Option ℤ → NumberRead
read_of None = Not
read_of (Some v) = if in_range v then Value v else OutOfRange
