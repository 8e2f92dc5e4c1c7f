use Rattle.std.proofs.Common.{◌≡◌, ◌-◌, ◌≤◌, drop, length}
use Rattle.cf_lexer.specs.Check.{code_of}
use Rattle.cf_lexer.specs.Lines.{first_of, rest_of}
use Rattle.cf_lexer.proofs.check.check_line.Given as goal

abbrev pub invariant-loop-place : goal.invariant-loop-place
invariant-loop-place l = record {
  from : l.fn.start ≤ l.place;
  within : l.place ≤ length l.text;
  code : code_of (first_of (drop l.place l.text)) ≡ code_of (first_of (drop l.fn.start l.text));
  behind : rest_of (drop l.place l.text) ≡ rest_of (drop l.fn.start l.text);
}

abbrev pub decreases-loop-place : goal.decreases-loop-place
decreases-loop-place l = length l.text - l.place
