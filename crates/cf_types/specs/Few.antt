-- The values of a list that mostly has one.
use Rattle.std.specs.Prelude.{List}
use Rattle.cf_types.specs.declared.few.Values.{Values}
use Rattle.cf_types.specs.declared.few.Values.TheVariants.{Any, One}

-- the one that stands there, or those of the vector
unfoldable pub values_of : {T : Type 0} → Values T → List T
values_of (One one) = one
values_of (Any values) = values.items
