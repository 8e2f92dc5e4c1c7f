use Rattle.std.proofs.Common.{◌≡◌, ℕ, None, slice_index_or}
use Rattle.live_tables.proofs.Joins.{group_among}
use Rattle.live_tables.proofs.driver_groups.driver_groups.Given as goal

abbrev pub invariant-loop-number : goal.invariant-loop-number
invariant-loop-number l = (d : ℕ) → slice_index_or l.table.items d None ≡ group_among l.groups l.number d
