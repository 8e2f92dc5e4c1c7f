use Rattle.std.proofs.Common.{◌≡◌, ℕ, None, take, slice_index_or}
use Rattle.live_tables.specs.Joining.{joined_by}
use Rattle.live_tables.proofs.driver_groups.join_all.Given as goal

abbrev pub invariant-loop-driver : goal.invariant-loop-driver
invariant-loop-driver l =
    (d : ℕ) → slice_index_or l.table.items d None ≡ joined_by (take l.driver-index l.drivers) l.group d (slice_index_or l.initial.table.items d None)
