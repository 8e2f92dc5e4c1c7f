use Rattle.std.proofs.Common.{◌≡◌, ℕ, ◌+◌, drop, slice_index_or}
use Rattle.plain_rows.specs.Taken.{times}
use Rattle.plain_rows.proofs.taken.raise.Given as goal

abbrev pub invariant-loop-row : goal.invariant-loop-row
invariant-loop-row l = (r : ℕ) → slice_index_or l.counts r 0 + times l.rows l.unit (drop l.row-index l.listed) r ≡ slice_index_or l.initial.counts r 0 + times l.rows l.unit l.listed r
