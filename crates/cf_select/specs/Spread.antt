-- Marks that spread, with those who still wait.
use Rattle.std.specs.Prelude.{List}
use Rattle.cf_select.specs.Reached.{Serves}
use Rattle.cf_select.specs.declared.marks.Reached.{Reached}
use Rattle.cf_select.specs.declared.want.Want.{Want}

-- those that want one of these were marked, and wait no longer
abbrev pub Goes : Reached → Reached → List Want → Type 0
Goes old new wants = Serves old.waiting.lists old.marks.items old.order.items new.waiting.lists new.marks.items new.order.items wants
