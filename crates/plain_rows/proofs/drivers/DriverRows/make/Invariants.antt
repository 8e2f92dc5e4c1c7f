use Rattle.std.proofs.Common.{◌≡◌, ℕ, filter}
use Rattle.cf_types.specs.Numbers.{below}
use Rattle.plain_rows.specs.Drivers.{is_driven}
use Rattle.plain_rows.specs.Lists.{list_at}
use Rattle.plain_rows.proofs.drivers.DriverRows.make.Given as goal

abbrev pub invariant-loop-number : goal.invariant-loop-number
invariant-loop-number l = (driver : ℕ) → list_at l.lists.items driver ≡ filter (is_driven l.rows driver) (below l.number)
