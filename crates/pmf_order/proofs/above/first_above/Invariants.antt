use Rattle.std.proofs.Common.{◌-◌, length}
use Rattle.pmf_order.proofs.AboveLaws.{IsLowest}
use Rattle.pmf_order.proofs.above.first_above.Given as goal

-- the first one so far, and the chain that is left
abbrev pub invariant-loop-level : goal.invariant-loop-level
invariant-loop-level l = IsLowest l.tree.live l.target (length l.tree.live - l._level) l.current l.first
