use Rattle.std.proofs.Common.{◌≡◌, length, take}
use Rattle.plain_rows.specs.Taken.{AreTakers}
use Rattle.plain_search.proofs.count.count_all.Given as goal

abbrev pub invariant-loop-device : goal.invariant-loop-device
invariant-loop-device l = record { rows : length l.taken ≡ length l.rules.tables.rows; counted : AreTakers l.rules (take l.device-index l.devices) l.taken }
