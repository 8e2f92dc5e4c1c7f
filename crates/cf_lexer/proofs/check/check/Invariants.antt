use Rattle.std.proofs.Common.{◌≡◌, ◌+◌, ◌-◌, ◌≤◌, length}
use Rattle.std.specs.Prelude.{IfSome}
use Rattle.config_rules.specs.Cut.{all_parts}
use Rattle.cf_lexer.specs.Check.{error_of, fault_from}
use Rattle.cf_lexer.specs.Lines.{lines_from}
use Rattle.cf_lexer.proofs.PlaceLemmas.{place_of}
use Rattle.cf_lexer.proofs.check.check.Given as goal

abbrev pub invariant-loop-left : goal.invariant-loop-left
invariant-loop-left l = record {
  so_far : error_of (all_parts l.line (lines_from l.text l.left)) ≡ fault_from l.text l.fn.number l.fn.start;
  within : IfSome l.left (λ place. place ≤ length l.text);
  count : l.line ≤ place_of l.text l.left + 1;
}

abbrev pub decreases-loop-left : goal.decreases-loop-left
decreases-loop-left l = length l.text + 1 - place_of l.text l.left
