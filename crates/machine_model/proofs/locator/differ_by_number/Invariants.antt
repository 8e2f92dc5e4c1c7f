use Rattle.std.proofs.Common.{◌≡◌, take, true}
use Rattle.config_rules.specs.MachineText.{differ}
use Rattle.machine_model.specs.Found.{names_of}
use Rattle.machine_model.proofs.locator.differ_by_number.Given as goal

abbrev pub invariant-loop-i : goal.invariant-loop-i
invariant-loop-i l = differ (names_of (take l.i l.found)) ≡ true
