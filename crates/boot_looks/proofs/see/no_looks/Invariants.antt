use Rattle.std.proofs.Common.{◌≡◌, None, replicate}
use Rattle.boot_looks.proofs.see.no_looks.Given as goal

abbrev pub invariant-loop-spot : goal.invariant-loop-spot
invariant-loop-spot l = l.looks.items ≡ replicate l._spot None
