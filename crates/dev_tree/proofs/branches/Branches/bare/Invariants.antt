use Rattle.std.proofs.Common.{◌≡◌, ℕ, [], length, get_or}
use Rattle.dev_tree.proofs.branches.Branches.bare.Given as goal

abbrev pub invariant-loop-device : goal.invariant-loop-device
invariant-loop-device l = (length l.lists.items ≡ l._device) × ((i : ℕ) → get_or l.lists.items i [] ≡ [])
