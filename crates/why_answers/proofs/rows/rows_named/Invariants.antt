use Rattle.std.proofs.Common.{◌≡◌, ◌≤◌, filter, length}
use Rattle.cf_types.specs.Numbers.{below}
use Rattle.why_answers.specs.Rows.{has_row}
use Rattle.why_answers.proofs.rows.rows_named.Given as goal

abbrev pub invariant-loop-number : goal.invariant-loop-number
invariant-loop-number l = record {
  named : l.rows.items ≡ filter (has_row l.tables l.word) (below l.number);
  few : length l.rows.items ≤ l.number;
}
