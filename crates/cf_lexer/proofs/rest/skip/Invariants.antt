use Rattle.std.proofs.Common.{◌+◌, ◌-◌, length, Some}
use Rattle.cf_lexer.specs.Rest.{MayRest, Passes, rest_tokens}
use Rattle.cf_lexer.proofs.RestLemmas.{rest_place}
use Rattle.cf_lexer.proofs.rest.skip.Given as goal

abbrev pub invariant-loop-left : goal.invariant-loop-left
invariant-loop-left l = record {
  rest : MayRest l.text l.left;
  passes : Passes l.text (rest_tokens l.text (Some l.fn.rest)) (rest_tokens l.text l.left);
}

abbrev pub decreases-loop-left : goal.decreases-loop-left
decreases-loop-left l = length l.text + 1 - rest_place l.text l.left
