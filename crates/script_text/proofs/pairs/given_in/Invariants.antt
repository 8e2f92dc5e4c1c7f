use Rattle.std.proofs.Common.{◌≡◌, length, true}
use Rattle.config_rules.specs.ScriptText.{are_pairs, given_in}
use Rattle.machine_text.specs.Words.{seen}
use Rattle.script_text.proofs.PairLemmas.{with_given}
use Rattle.script_text.proofs.pairs.given_in.Given as goal

abbrev pub invariant-loop-rest : goal.invariant-loop-rest
invariant-loop-rest l = record {
  pairs : are_pairs (seen l.rest) ≡ true;
  so_far : with_given l.given (given_in (seen l.rest)) ≡ given_in (seen l.words);
}

abbrev pub decreases-loop-rest : goal.decreases-loop-rest
decreases-loop-rest l = length l.rest
