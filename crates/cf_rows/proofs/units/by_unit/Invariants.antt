use Rattle.std.proofs.Common.{take}
use Rattle.std.specs.Prelude.{nat_eq}
use Rattle.std.specs.HashMap.{get}
use Rattle.cf_rows.specs.Rows.{seen, AreGroups}
use Rattle.cf_rows.proofs.units.by_unit.Given as goal

abbrev pub invariant-loop-instance : goal.invariant-loop-instance
invariant-loop-instance l = AreGroups (seen (take l.instance-index l.own)) l.groups.items (get nat_eq l.places)
