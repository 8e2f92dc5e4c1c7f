use Rattle.std.proofs.Common.{◌≡◌, drop}
use Rattle.config_rules.specs.MachineText.{differ}
use Rattle.machine_model.specs.Found.{names_of}
use Rattle.machine_model.proofs.locator.differ_in_turn.Given as goal

abbrev pub invariant-loop-i : goal.invariant-loop-i
invariant-loop-i l = differ (names_of (drop l.i l.found)) ≡ differ (names_of l.found)
