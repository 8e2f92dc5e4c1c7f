use Rattle.std.proofs.Common.{◌≡◌, ℕ, take, slice_index_or}
use Rattle.run_rules.specs.MatchLines.{last_value}
use Rattle.plain_rows.proofs.values.set_values.Given as goal

abbrev pub invariant-loop-line : goal.invariant-loop-line
invariant-loop-line l = (a : ℕ) → slice_index_or l.values.items a 0 ≡ last_value l.spot (take l.line-index l.lines) a (slice_index_or l.initial.values.items a 0)
