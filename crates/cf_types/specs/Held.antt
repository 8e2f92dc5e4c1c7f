-- What a statement has, alone or shared.
use Rattle.std.specs.Arc.{arc_value}
use Rattle.cf_types.specs.declared.held.Owner.{Owner}
use Rattle.cf_types.specs.declared.held.Owner.TheVariants.{Own, Shared}

-- that of one statement, or of several
unfoldable pub value_of : {T : Type 0} → Owner T → T
value_of (Own x) = x
value_of (Shared x) = arc_value x
