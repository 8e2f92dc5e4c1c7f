use Rattle.std.proofs.Common.{◌≡◌, ◌+◌, ◌-◌, ◌≤◌, [], length}
use Rattle.std.specs.Prelude.{IfSome}
use Rattle.cf_types.specs.Lines.{lines_of}
use Rattle.cf_lexer.specs.Lines.{lines_from}
use Rattle.cf_lexer.proofs.PlaceLemmas.{place_of}
use Rattle.cf_lexer.proofs.TextWords.{finish}
use Rattle.cf_lexer.proofs.text.cut.Given as goal

abbrev pub invariant-loop-left : goal.invariant-loop-left
invariant-loop-left l = record {
  so_far : finish l.tokens.items l.number (place_of l.text l.left) (lines_from l.text l.left) ≡ finish [] 1 0 (lines_of l.text);
  within : IfSome l.left (λ place. place ≤ length l.text);
  count : l.number ≤ place_of l.text l.left + 1;
}

abbrev pub decreases-loop-left : goal.decreases-loop-left
decreases-loop-left l = length l.text + 1 - place_of l.text l.left
