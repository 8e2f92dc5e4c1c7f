use Rattle.std.proofs.Common.{◌≡◌, take}
use Rattle.plain_rows.specs.Sought.{candidates_in}
use Rattle.plain_rows.proofs.suited.suiting_rows.Given as goal

abbrev pub invariant-loop-row : goal.invariant-loop-row
invariant-loop-row l = l.list.items ≡ candidates_in l.sought (take l.row-index l.rows)
