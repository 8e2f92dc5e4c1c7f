use Rattle.std.proofs.Common.{take}
use Rattle.machine_model.specs.Found.{names_of}
use Rattle.machine_model.specs.NumberedNames.{HaveNumbers}
use Rattle.machine_model.proofs.locator.name_numbers.Given as goal

abbrev pub invariant-loop-i : goal.invariant-loop-i
invariant-loop-i l = HaveNumbers l.numbers.items (names_of (take l.i l.found))
