use Rattle.std.proofs.Common.{◌≡◌}
use Rattle.std.specs.Prelude.{flat_map}
use Rattle.config_rules.specs.Meaning.{device_rows}
use Rattle.cf_types.specs.Numbers.{below}
use Rattle.cf_rows.specs.Rows.{seen}
use Rattle.cf_rows.proofs.rows.rows_of.Given as goal

abbrev pub invariant-loop-group : goal.invariant-loop-group
invariant-loop-group l = l.rows ≡ flat_map (device_rows (seen l.instances)) (below l.group-index)
