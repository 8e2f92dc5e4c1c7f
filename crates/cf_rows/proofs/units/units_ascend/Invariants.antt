use Rattle.std.proofs.Common.{take}
use Rattle.cf_rows.specs.Rows.{seen, AreAscending}
use Rattle.cf_rows.proofs.units.units_ascend.Given as goal

abbrev pub invariant-loop-instance : goal.invariant-loop-instance
invariant-loop-instance l = AreAscending (seen (take l.instance-index l.own)) l.least
