use Rattle.std.proofs.Common.{◌≡◌, map, take}
use Rattle.config_rules.specs.MachineText.{found_value}
use Rattle.machine_model.specs.Found.{given_of}
use Rattle.machine_model.proofs.spot.found_values.Given as goal

abbrev pub invariant-loop-loc : goal.invariant-loop-loc
invariant-loop-loc l = l.values ≡ map (found_value (map given_of l.found)) (take l.loc-index l.locs)
