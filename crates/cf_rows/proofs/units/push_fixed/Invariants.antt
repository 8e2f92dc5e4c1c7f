use Rattle.std.proofs.Common.{◌≡◌, ◌++◌, take}
use Rattle.cf_rows.specs.Rows.{seen, fixed}
use Rattle.cf_rows.proofs.units.push_fixed.Given as goal

abbrev pub invariant-loop-instance : goal.invariant-loop-instance
invariant-loop-instance l = seen l.ordered.items ≡ seen l.initial.ordered.items ++ fixed (seen (take l.instance-index l.own))
