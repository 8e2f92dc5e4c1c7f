use Rattle.std.proofs.Common.{◌≡◌, take}
use Rattle.std.specs.List.{filter_map}
use Rattle.config_rules.specs.Meaning.{own_unit, first_unit}
use Rattle.cf_rows.specs.Rows.{seen}
use Rattle.cf_rows.proofs.units.first_unit.Given as goal

abbrev pub invariant-loop-instance : goal.invariant-loop-instance
invariant-loop-instance l = l.first ≡ first_unit (filter_map own_unit (seen (take l.instance-index l.own)))
