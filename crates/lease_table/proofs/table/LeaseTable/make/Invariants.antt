use Rattle.std.proofs.Common.{◌≡◌}
use Rattle.lease_table.specs.Leases.{drawn_view}
use Rattle.lease_table.specs.Shown.{first_seats}
use Rattle.lease_table.proofs.table.LeaseTable.make.Given as goal

abbrev pub invariant-loop-i : goal.invariant-loop-i
invariant-loop-i l =
    (l.keeper ≡ record { table = l.table-inside.table.shared.table_id; view = drawn_view l.slots l.i }) × (l.seats ≡ first_seats l.table-inside.table.shared.table_id l.slots l.i)
