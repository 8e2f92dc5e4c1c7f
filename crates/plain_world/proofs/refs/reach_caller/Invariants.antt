use Rattle.std.proofs.Common.{◌≡◌, ◌≤◌, ℕ, length}
use Rattle.plain_world.specs.Tallies.{tally_at}
use Rattle.plain_world.proofs.refs.reach_caller.Given as goal

-- what was counted stays, and there is a tally for each caller so far
abbrev pub invariant-loop-number : goal.invariant-loop-number
invariant-loop-number l = ((k s : ℕ) → tally_at l.callers.items k s ≡ tally_at l.initial.callers.items k s) × (l._number ≤ length l.callers.items)
