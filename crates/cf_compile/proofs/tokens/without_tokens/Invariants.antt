use Rattle.std.proofs.Common.{◌≡◌}
use Rattle.cf_compile.proofs.EmptiedLaws.{emptied_to}
use Rattle.cf_compile.proofs.tokens.without_tokens.Given as goal

abbrev pub invariant-loop-place : goal.invariant-loop-place
invariant-loop-place l = l.kept.items ≡ emptied_to l.place l.fn.placed
