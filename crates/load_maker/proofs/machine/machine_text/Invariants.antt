use Rattle.std.proofs.Common.{◌≡◌}
use Rattle.load_maker.specs.Generated as generated
use Rattle.load_maker.proofs.machine.machine_text.Given as goal

-- the bus and the spots before this number were written
abbrev pub invariant-loop-number : goal.invariant-loop-number
invariant-loop-number l = l.text.items ≡ generated.machine_text l.number
