use Rattle.std.proofs.Common.{◌≡◌, ◌≤◌, ◌*◌, ◌<◌, ℕ, true}
use Rattle.unit_alloc.specs.Taken.{is_set}
use Rattle.unit_alloc.proofs.clear.first_clear_from.Given as goal

abbrev pub invariant-loop-place : goal.invariant-loop-place
invariant-loop-place l = (n : ℕ) → 64 * l.from ≤ n → n < 64 * l.place → is_set l.words n ≡ true
