use Rattle.std.proofs.Common.{◌≡◌, take}
use Rattle.cf_rows.proofs.rows.row.Given as goal

-- the values so far are those of the instance, and nothing else changes
abbrev pub invariant-loop-value : goal.invariant-loop-value
invariant-loop-value l = l.made ≡ record l.initial.made { locs = take l.value-index l.value-items }
