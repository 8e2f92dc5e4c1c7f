use Rattle.std.proofs.Common.{◌≡◌, ◌++◌, map, take}
use Rattle.config_rules.specs.Meaning.{row}
use Rattle.cf_rows.specs.Rows.{seen}
use Rattle.cf_rows.proofs.rows.push_device.Given as goal

abbrev pub invariant-loop-instance : goal.invariant-loop-instance
invariant-loop-instance l = l.rows ≡ l.initial.rows ++ map (row l.first) (seen (take l.instance-index l.instance-items))
