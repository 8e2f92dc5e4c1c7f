use Rattle.run_world.proofs.named.+is_unit_name.Given as goal

abbrev pub decreases-is_unit_name : goal.decreases-is_unit_name
decreases-is_unit_name l = l.unit
