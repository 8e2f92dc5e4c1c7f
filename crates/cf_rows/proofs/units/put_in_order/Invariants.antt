use Rattle.std.proofs.Common.{◌≡◌, take}
use Rattle.std.specs.Prelude.{flat_map}
use Rattle.cf_rows.specs.Rows.{seen}
use Rattle.cf_rows.proofs.units.put_in_order.Given as goal

abbrev pub invariant-loop-group : goal.invariant-loop-group
invariant-loop-group l = seen l.ordered.items ≡ flat_map seen (take l.group-index l.group-items)
