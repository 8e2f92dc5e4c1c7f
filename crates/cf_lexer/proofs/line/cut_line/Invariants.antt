use Rattle.std.proofs.Common.{◌≡◌, ◌-◌, ◌≤◌, drop, length}
use Rattle.config_rules.specs.Cut.{parts_of}
use Rattle.cf_lexer.specs.Line.{with_line}
use Rattle.cf_lexer.specs.Lines.{first_of, rest_of}
use Rattle.cf_lexer.proofs.line.cut_line.Given as goal

abbrev pub invariant-loop-place : goal.invariant-loop-place
invariant-loop-place l = record {
  from : l.start ≤ l.place;
  within : l.place ≤ length l.text;
  so_far : with_line l.tokens.items l.line l.place (parts_of (first_of (drop l.place l.text))) ≡ with_line l.fn.tokens.items l.line l.start (parts_of (first_of (drop l.start l.text)));
  behind : rest_of (drop l.place l.text) ≡ rest_of (drop l.start l.text);
}

abbrev pub decreases-loop-place : goal.decreases-loop-place
decreases-loop-place l = length l.text - l.place
