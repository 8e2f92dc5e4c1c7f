use Rattle.std.proofs.Common.{◌≡◌, drop, map}
use Rattle.config_rules.specs.MachineText.{found_fault}
use Rattle.machine_model.specs.Found.{given_of}
use Rattle.machine_model.proofs.spot.found_fault.Given as goal

abbrev pub invariant-loop-value : goal.invariant-loop-value
invariant-loop-value l = found_fault l.locs (map given_of (drop l.value-index l.found)) ≡ found_fault l.locs (map given_of l.found)
