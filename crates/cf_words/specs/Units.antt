-- The parts of a unit chunk, as the definition of the grammar has them.
use Rattle.std.specs.Prelude.{ℕ, List}
use Rattle.cf_types.specs.declared.stmt.UnitMark.{UnitMark}
use Rattle.cf_words.specs.declared.unit.FixedUnit.{FixedUnit}
use Rattle.cf_words.specs.declared.unit.MarkedUnit.{MarkedUnit}

abbrev pub fixed_parts : FixedUnit → List ℕ × ℕ
fixed_parts u = (u.base, u.unit)

abbrev pub unit_parts : MarkedUnit → List ℕ × UnitMark
unit_parts u = (u.base, u.mark)
