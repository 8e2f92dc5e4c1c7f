use Rattle.std.proofs.Common.{◌≡◌, ℕ, ◌-◌, ◌%◌, false, length}
use Rattle.std.specs.List.{slice_index_or}
use Rattle.run_rules.specs.World.{has, lineage}
use Rattle.plain_choice.proofs.waking.mark_up.Given as goal

-- what has no mark is in the rest of the chain exactly where it is in the whole chain
abbrev pub invariant-loop-level : goal.invariant-loop-level
invariant-loop-level l = (s : ℕ) → slice_index_or l.marks (s % 1024) false ≡ false
    → has (lineage (length l.live.devices - l._level) l.live.devices l.current) s ≡ has (lineage (length l.live.devices) l.live.devices l.target) s
